-- `parity::take_bit` meets its contract: the bit is added at the top of the register, and one step is made. Assumes nothing.
use Rattle.std.proofs.Common.{◌∙◌}
use Rattle.parity.proofs.Octets.{bit_taken}
use Rattle.parity.proofs.take_bit.Goals as goal

pub returns : goal.returns
returns c m e =
    let s = rw c.from.ensures at c.step.ensures in
    s ∙ bit_taken m c.args.r c.args.b e
