-- `order_sheets::write_lines` meets its contract: each line that was tested is read again, and gives the table's next number. Assumes nothing.
use mathlib.Core.Path.{sym, ap, ◌∙◌, refl}
use native.Mathlib.Omega.{arith}
use Rattle.order_sheets.specs.Answers.{front}
use Rattle.order_sheets.proofs.WriteLaws.{not-refused, more-written, all-written}
use Rattle.order_sheets.proofs.write_lines.Goals as goal

pub returns-in_default : goal.returns-in_default
returns-in_default c =
    λ table e. absurd
    (not-refused c.loop-j.invariant (omega (arith, c.loop-j-test.true, c.loop-j.invariant.size)) (sym (ap front c.in_default.is) ∙ c.line.ensures) table e)

pub loop-j-preserved : goal.loop-j-preserved
loop-j-preserved c =
    let i = c.loop-j.invariant in
    more-written i (omega (arith, c.loop-j-test.true, i.size)) c.in-Some.number _ _ (sym (ap front c.in-Some.is) ∙ c.line.ensures) (omega (arith, c.requires, i.size)) refl

pub returns : goal.returns
returns c = all-written c.loop-j.invariant (omega (arith, c.loop-j-test.false, c.loop-j.invariant.size))
