-- A value is shown exactly where, and each number comes exactly where, the claims say. Assumes nothing.
use Rattle.definitions.proofs.Fixed.{answers_fixed}
use Rattle.definitions.proofs.answers_claim.Goals as goal

pub returns : goal.returns
returns c = answers_fixed
