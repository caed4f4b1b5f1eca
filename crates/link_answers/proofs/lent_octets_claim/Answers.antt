-- The lent octets after Down. Assumes nothing.
use Rattle.link_answers.proofs.Claims.{lent_octets}
use Rattle.link_answers.proofs.lent_octets_claim.Goals as goal

pub returns : goal.returns
returns c = lent_octets
