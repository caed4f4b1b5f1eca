-- `bits::clear_to_border` meets its contract: it stores 0 in the bits of the octet that `end` cuts, and nothing where `end` is at a border.
-- Assumes nothing.
use Rattle.bits.proofs.Masks.{cleared}
use Rattle.bits.proofs.clear_to_border.Goals as goal

pub returns-then-a-gt0 : goal.returns-then-a-gt0
returns-then-a-gt0 c =
    cleared c.args.dst.now c.args.end c.with_field.result c.requires c.if-a-gt0.true c.with_field.ensures
