-- Each refusal comes on its condition and changes nothing. Assumes nothing.
use Rattle.consoles_spec.proofs.Refusals.{refuses_consoles}
use Rattle.consoles_spec.proofs.refusals_claim.Goals as goal

pub returns : goal.returns
returns c = refuses_consoles
