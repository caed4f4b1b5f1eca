-- `parity::shift_octet` meets its contract, by one test that antt computes over the octets. Assumes nothing.
use Rattle.std.proofs.Common.{rules}
use Rattle.parity.proofs.Octets.{shift_is}
use Rattle.parity.proofs.shift_octet.Goals as goal

pub returns : goal.returns
returns c = shift_is c.args.y (search rules)
