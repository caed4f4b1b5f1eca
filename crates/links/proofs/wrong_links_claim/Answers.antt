-- The wrong links do not meet the claims. Assumes nothing.
use Rattle.links.proofs.WrongLinks.{wrong_links}
use Rattle.links.proofs.wrong_links_claim.Goals as goal

pub returns : goal.returns
returns c = wrong_links
