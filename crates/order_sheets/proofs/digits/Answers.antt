-- `order_sheets::digits` meets its contract: each octet ends the number, or is one more of its digits, or is refused. Assumes nothing.
use mathlib.Core.Path.{sym, ◌∙◌}
use mathlib.Core.Logic.{⊎_elim, inl, inr}
use native.Mathlib.Omega.{arith}
use Rattle.order_sheets.proofs.NumberLaws.{read-whole, read-end, read-stop, read-more}
use Rattle.order_sheets.proofs.digits.Goals as goal

pub returns-then-c-end : goal.returns-then-c-end
returns-then-c-end c = read-end _ _ c.args.s.now _ _ c.loop-i.invariant c.loop-i-test.true c.if-c-end.true

pub returns-then-not-is_ascii_digit : goal.returns-then-not-is_ascii_digit
returns-then-not-is_ascii_digit c =
    read-stop _ _ c.args.s.now _ _ c.loop-i.invariant c.loop-i-test.true c.if-c-end.false
    (⊎_elim (λ d. inl (sym c.is_ascii_digit.ensures.value ∙ d)) (λ b. inr b.1) c.then-not-is_ascii_digit.either)

pub loop-i-preserved : goal.loop-i-preserved
loop-i-preserved c =
    read-more _ _ c.args.s.now _ _ c.loop-i.invariant c.loop-i-test.true _ c.if-c-end.false
    (sym c.is_ascii_digit.ensures.value ∙ c.if-not-is_ascii_digit.false) c.if-v-eq0.false (c.saturating_add-v.ensures ∙ rw (c.saturating_mul.ensures, c.from.ensures))

pub returns : goal.returns
returns c = read-whole _ _ c.args.s.now _ _ c.loop-i.invariant (omega (arith, c.loop-i-test.false))
