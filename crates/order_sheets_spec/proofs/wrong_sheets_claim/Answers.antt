-- The wrong readers do not meet the claims. Assumes nothing.
use Rattle.order_sheets_spec.proofs.WrongSheets.{wrong_sheets}
use Rattle.order_sheets_spec.proofs.wrong_sheets_claim.Goals as goal

pub returns : goal.returns
returns c = wrong_sheets
