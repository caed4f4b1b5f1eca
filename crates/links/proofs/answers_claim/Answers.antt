-- Up and Down answer by what accepted calls said. Assumes nothing.
use Rattle.links.proofs.History.{answers_by_rule}
use Rattle.links.proofs.answers_claim.Goals as goal

pub returns : goal.returns
returns c = answers_by_rule
