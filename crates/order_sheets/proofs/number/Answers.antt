-- `order_sheets::number` meets its contract: a first digit, and the digits behind it. Assumes nothing.
use borrow.Author.Rules.{rules}
use mathlib.Core.Path.{◌≡◌, sym, ap, ◌∙◌}
use Prim.Native.Nat.{◌-◌}
use Rattle.std.specs.Prelude.{None}
use Rattle.order_sheets.specs.Answers.{front}
use Rattle.order_sheets.proofs.NumberLaws.{number-none, number-stop, number-read, digit-capped}
use Rattle.order_sheets.proofs.number.Goals as goal

pub returns-in_err-c : goal.returns-in_err-c
returns-in_err-c c =
    let r : c.from_residual.result ≡ None = search rules in
    ap front r ∙ number-none _ _ c.in_err-c.ensures.cases

pub returns-then-not-is_ascii_digit : goal.returns-then-not-is_ascii_digit
returns-then-not-is_ascii_digit c =
    number-stop _ _ _ _ c.in_ok-c.ensures.cases.0 (sym c.is_ascii_digit.ensures.value ∙ c.if-not-is_ascii_digit.true)

pub returns : goal.returns
returns c =
    let d = sym c.is_ascii_digit.ensures.value ∙ c.if-not-is_ascii_digit.false in
    c.digits.ensures (c.in_ok-c.c.now - 48) (digit-capped _ d ∙ sym c.from.ensures) ∙ number-read _ _ _ _ c.in_ok-c.ensures.cases.0 d
