-- `frame_tests::type_in` meets its contract: the type is a field of the first octet. Assumes nothing.
use mathlib.Core.Path.{ap, ◌∙◌}
use Prim.Native.Nat.{ℕ, ◌-◌}
use native.Mathlib.Omega.{arith}
use lib.ListN.{drop}
use Rattle.bits.specs.Bits.{bits, num}
use Rattle.frame_tests.proofs.TestLaws.{masked_field}
use Rattle.frame_tests.proofs.type_in.Goals as goal

pub returns : goal.returns
returns c =
    let a = c.args in
    masked_field a.s.now (c.type_inv.s 0).fits c.requires c.spare_before.result 4 (4 - c.spare_before.result) (omega (arith, c.spare_before.ensures.1))
    ∙ ap (λ (k : ℕ). num 4 (drop (k) (bits a.s.now))) c.spare_before.ensures.0
