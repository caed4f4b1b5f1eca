-- `bits::copy_part` meets its contract: the field of the source goes into one octet of the target, as `part` says. Assumes nothing.
use native.Mathlib.Omega.{arith}
use Rattle.bits.proofs.BitLaws.{num-lt}
use Rattle.bits.proofs.Masks.{part}
use Rattle.bits.proofs.copy_part.Goals as goal

pub with_field-requires : goal.with_field-requires
with_field-requires c = (omega arith, rw c.field_at-v.ensures (num-lt c.args.k _))

pub returns-then-k-gt0 : goal.returns-then-k-gt0
returns-then-k-gt0 c =
    let a = c.args in
    part a.src.now a.dst.now a.from a.at a.k c.field_at-v.result c.with_field.result c.requires.1 c.requires.2 (omega arith) (omega arith) c.field_at-v.ensures c.with_field.ensures
