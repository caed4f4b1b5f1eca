-- `parity::remainder_claim` meets its contract, which is proved in Remainder. Assumes nothing.
use Rattle.parity.proofs.Remainder.{is_remainder}
use Rattle.parity.proofs.remainder_claim.Goals as goal

pub returns : goal.returns
returns c = is_remainder
