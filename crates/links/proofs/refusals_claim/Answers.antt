-- The calls are refused by the first number whose condition holds. Assumes nothing.
use Rattle.links.proofs.Refusals.{refuses_link}
use Rattle.links.proofs.refusals_claim.Goals as goal

pub returns : goal.returns
returns c = refuses_link
