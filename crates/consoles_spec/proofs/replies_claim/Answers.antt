-- The claims leave no reply free. Assumes nothing.
use Rattle.consoles_spec.proofs.Agreement.{consoles_agree}
use Rattle.consoles_spec.proofs.replies_claim.Goals as goal

pub returns : goal.returns
returns c = consoles_agree
