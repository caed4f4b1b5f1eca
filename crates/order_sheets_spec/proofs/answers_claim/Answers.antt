-- The claims leave no answer free. Assumes nothing.
use Rattle.order_sheets_spec.proofs.Agreement.{sheets_agree}
use Rattle.order_sheets_spec.proofs.answers_claim.Goals as goal

pub returns : goal.returns
returns c = sheets_agree
