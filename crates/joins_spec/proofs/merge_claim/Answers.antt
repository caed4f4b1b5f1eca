-- The merge meets its claim. Assumes nothing.
use Rattle.joins_spec.proofs.Merges.{merges}
use Rattle.joins_spec.proofs.merge_claim.Goals as goal

pub returns : goal.returns
returns c = merges
