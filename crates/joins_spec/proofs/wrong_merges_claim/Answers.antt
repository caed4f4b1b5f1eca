-- The wrong merges do not meet the claim. Assumes nothing.
use Rattle.joins_spec.proofs.WrongMerges.{wrong_merges}
use Rattle.joins_spec.proofs.wrong_merges_claim.Goals as goal

pub returns : goal.returns
returns c = wrong_merges
