-- `report_program::text::put_line` meets its contract: the label, the number's digits and the line feed stand one behind the other.
-- Assumes nothing.
use mathlib.Core.Path.{ap, ◌∙◌}
use mathlib.Core.List.{[], ◌∷◌, ◌++◌, append_assoc}
use native.Mathlib.Omega.{arith}
use lib.ListN.{take}
use Rattle.definitions.specs.Decimal.{decimal}
use Rattle.report_program.specs.Text.{line}
use Rattle.report_program.proofs.DigitLaws.{decimal_few}
use Rattle.report_program.proofs.text.put_line.Goals as goal

pub returns : goal.returns
unfolding line
returns c =
    let a = c.args in (
      omega (arith, decimal_few a.n c.ranges.n.fits, c.put-at.ensures.0, c.put_number-at.ensures.0, c.put.ensures.0),
      c.put.ensures.1
          ∙ ap (λ t. t ++ (10 ∷ [])) (c.put_number-at.ensures.1 ∙ ap (λ t. t ++ decimal a.n) c.put-at.ensures.1)
          ∙ ap (λ t. t ++ (10 ∷ [])) (append_assoc (take a.at a.out.now) a.label.now (decimal a.n))
          ∙ append_assoc (take a.at a.out.now) (a.label.now ++ decimal a.n) (10 ∷ []),
    )
