-- `frame_tests::quality_in` meets its contract: the quality is a bit of the first octet. Assumes nothing.
use mathlib.Core.Path.{ap, ◌∙◌}
use Prim.Native.Nat.{ℕ, ◌+◌, ◌-◌}
use native.Mathlib.Omega.{arith}
use lib.ListN.{drop}
use Rattle.bits.specs.Bits.{bits, num}
use Rattle.frame_tests.proofs.TestLaws.{masked_field}
use Rattle.frame_tests.proofs.quality_in.Goals as goal

pub returns : goal.returns
returns c =
    let a = c.args in
    masked_field a.s.now (c.type_inv.s 0).fits c.requires (c.spare_before.result + 4) 1 (3 - c.spare_before.result) (omega (arith, c.spare_before.ensures.1))
    ∙ ap (λ (k : ℕ). num 1 (drop (k + 4) (bits a.s.now))) c.spare_before.ensures.0
