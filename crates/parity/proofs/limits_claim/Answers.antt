-- `parity::limits_claim` meets its contract, whose parts are proved in Detect. Assumes nothing.
use Rattle.parity.proofs.Detect.{zeros_detect_nothing, two_places_unseen}
use Rattle.parity.proofs.limits_claim.Goals as goal

pub returns : goal.returns
returns c = (zeros_detect_nothing, two_places_unseen)
