-- Up joins what Down split, and Down splits what Up joined. Assumes nothing.
use Rattle.links.proofs.ThereAndBack.{there_and_back}
use Rattle.links.proofs.there_and_back_claim.Goals as goal

pub returns : goal.returns
returns c = there_and_back
