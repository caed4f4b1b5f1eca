-- Frames taken in equal frames served plus frames waiting. Assumes nothing.
use Rattle.consoles_spec.proofs.Count.{keeps_count}
use Rattle.consoles_spec.proofs.count_claim.Goals as goal

pub returns : goal.returns
returns c = keeps_count
