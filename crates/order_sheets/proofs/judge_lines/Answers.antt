-- `order_sheets::judge_lines` meets its contract: each line is read and its number marked, and then what is left is looked at. Assumes nothing.
use borrow.Author.Rules.{rules}
use mathlib.Core.Path.{◌≡◌, sym, ap, ◌∙◌}
use native.Mathlib.Omega.{arith}
use Rattle.std.specs.Prelude.{Some, None, Err, ⊤}
use Rattle.frame.specs.Answers.{outcome_of}
use Rattle.frame.specs.declared.Refusal.TheVariants.{SheetForm}
use Rattle.order_sheets.specs.Answers.{front}
use Rattle.order_sheets.proofs.TestLaws.{none-tested, line-refused, line-tested, text-behind, number-missing, all-tested}
use Rattle.order_sheets.proofs.judge_lines.Goals as goal

pub loop-j-init : goal.loop-j-init
loop-j-init c = none-tested c.args.s.now c.args.k 477 c.requires

pub returns-in_err-n : goal.returns-in_err-n
returns-in_err-n c =
    let n : c.line.result ≡ None = search rules in
    let r : c.from_residual.result ≡ Err SheetForm = search rules in
    ap (outcome_of {A = ⊤} {B = ⊤} (λ u. u)) r ∙ line-refused c.loop-j.invariant c.loop-j-test.true (sym (ap front n) ∙ c.line.ensures)

pub loop-j-preserved : goal.loop-j-preserved
loop-j-preserved c =
    let n : c.line.result ≡ Some (c.in_ok-n.n, c.in_ok-n.behind) = search rules in
    let m = c.mark-complete.ensures in
    line-tested c.loop-j.invariant c.loop-j-test.true c.in_ok-n.n _ c.mark-complete.result _ (omega (arith, c.requires)) (sym (ap front n) ∙ c.line.ensures) m.0 m.1

pub returns-then-not-is_empty : goal.returns-then-not-is_empty
returns-then-not-is_empty c = text-behind c.loop-j.invariant c.loop-j-test.false (sym c.is_empty.ensures ∙ c.if-not-is_empty.true)

pub returns-then-not-complete : goal.returns-then-not-complete
returns-then-not-complete c =
    number-missing c.loop-j.invariant c.loop-j-test.false (sym c.is_empty.ensures ∙ c.if-not-is_empty.false) c.if-not-complete.true

pub returns : goal.returns
returns c = all-tested c.loop-j.invariant c.loop-j-test.false (sym c.is_empty.ensures ∙ c.if-not-is_empty.false) c.if-not-complete.false
