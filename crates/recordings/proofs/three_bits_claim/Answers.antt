-- The two recordings are computed. Assumes nothing.
use Rattle.recordings.proofs.ThreeBits.{three_is_sharp}
use Rattle.recordings.proofs.three_bits_claim.Goals as goal

pub returns : goal.returns
returns c = three_is_sharp
