-- The link remembers what accepted calls said. Assumes nothing.
use Rattle.links.proofs.History.{remembers}
use Rattle.links.proofs.history_claim.Goals as goal

pub returns : goal.returns
returns c = remembers
