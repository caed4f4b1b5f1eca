-- The wrong programs do not meet the claims. Assumes nothing.
use Rattle.consoles_spec.proofs.WrongConsoles.{wrong_consoles}
use Rattle.consoles_spec.proofs.wrong_consoles_claim.Goals as goal

pub returns : goal.returns
returns c = wrong_consoles
