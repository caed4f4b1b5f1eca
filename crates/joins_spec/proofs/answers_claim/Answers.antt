-- The claim leaves no answer free. Assumes nothing.
use Rattle.joins_spec.proofs.Agreement.{merges_agree}
use Rattle.joins_spec.proofs.answers_claim.Goals as goal

pub returns : goal.returns
returns c = merges_agree
