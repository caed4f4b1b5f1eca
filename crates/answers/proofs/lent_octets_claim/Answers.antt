-- Lent octets after each kind of call. Assumes nothing.
use Rattle.answers.proofs.Claims.{lent_octets}
use Rattle.answers.proofs.lent_octets_claim.Goals as goal

pub returns : goal.returns
returns c = lent_octets
