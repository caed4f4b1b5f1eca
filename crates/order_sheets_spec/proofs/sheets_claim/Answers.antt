-- A text is read exactly where it is the sheet of a permutation, and refused on each number's condition; the calls that order by it undo one another. Assumes nothing.
use Rattle.order_sheets_spec.proofs.Reading.{reads_sheets}
use Rattle.order_sheets_spec.proofs.Refusals.{refuses_sheets}
use Rattle.order_sheets_spec.proofs.Ordering.{orders_by_read}
use Rattle.order_sheets_spec.proofs.Form.{sheets_differ}
use Rattle.order_sheets_spec.proofs.sheets_claim.Goals as goal

pub returns : goal.returns
returns c = (reads_sheets, refuses_sheets, orders_by_read, sheets_differ)
