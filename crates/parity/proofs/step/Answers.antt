-- `parity::step` meets its contract: the mask is all ones where the top bit is 1, and 0 otherwise. Assumes nothing.
use Rattle.std.proofs.Common.{rules, arith}
use Rattle.parity.proofs.Octets.{step_is}
use Rattle.parity.proofs.step.Goals as goal

pub returns : goal.returns
returns c = step_is c.args.r _ (search rules) (omega arith) (omega arith)
