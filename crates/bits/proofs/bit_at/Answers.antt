-- `bits::bit_at` meets its contract: the shift brings the bit down, and the mask keeps it. Assumes nothing.
use Rattle.bits.proofs.Masks.{bit_is}
use Rattle.bits.proofs.bit_at.Goals as goal

pub returns : goal.returns
returns c = bit_is c.args.s.now c.args.i c.requires
