-- `parity::take_octet` meets its contract: the octet is added to the register first. Assumes nothing.
use Rattle.std.proofs.Common.{◌∙◌, rules}
use Rattle.parity.proofs.Octets.{octet_added}
use Rattle.parity.proofs.take_octet.Goals as goal

pub returns : goal.returns
returns c =
    λ m e. c.shift_octet.ensures ∙ octet_added m c.args.r c.args.x (search rules) (search rules) e
