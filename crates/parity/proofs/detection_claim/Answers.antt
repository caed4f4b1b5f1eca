-- `parity::detection_claim` meets its contract, which is proved in Detect and Guarded. Assumes nothing.
use Rattle.parity.proofs.Detect.{detects}
use Rattle.parity.proofs.Guarded.{frames-differ}
use Rattle.parity.proofs.detection_claim.Goals as goal

pub returns : goal.returns
returns c = (detects, frames-differ)
