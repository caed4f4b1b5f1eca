-- `report_program::text::put_number` meets its contract: the last digit stands behind those of the tenth part. Assumes nothing.
use mathlib.Core.Path.{sym, ap, ◌∙◌}
use mathlib.Core.List.{[], ◌∷◌, ◌++◌, append_assoc}
use Prim.Native.Nat.{◌+◌, ◌/◌, ◌%◌}
use native.Mathlib.Omega.{arith}
use lib.ListN.{take}
use Rattle.definitions.specs.Decimal.{decimal}
use Rattle.report_program.proofs.DigitLaws.{decimal_longer, decimal_step, decimal_printed}
use Rattle.report_program.proofs.text.+put_number.Goals as goal

pub returns : goal.returns
returns t c =
    let a = c.args in
    let large = c.if-n-lt10.false in
    let last = (48 + a.n % 10) ∷ [] in
    let put =
    c.put-2.ensures.1
    ∙ ap (λ t. t ++ last) c.put_number-at.ensures.1
    ∙ append_assoc (take a.at a.out.now) (decimal (a.n / 10)) last
    ∙ ap (λ t. take a.at a.out.now ++ t) (sym (decimal_step a.n large)) in (
      omega (arith, decimal_longer a.n large, c.put-2.ensures.0, c.put_number-at.ensures.0),
      put,
      put ∙ ap (λ t. take a.at a.out.now ++ t) (sym (decimal_printed a.n (omega arith))),
    )
