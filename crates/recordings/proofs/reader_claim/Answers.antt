-- The reader shows exactly the recordings that are laid out, and stops at the first refused frame; three wrong readers do not. Assumes nothing.
use Rattle.recordings.proofs.Claims.{reads_recordings, readers_agree}
use Rattle.recordings.proofs.WrongReaders.{wrong_readers}
use Rattle.recordings.proofs.reader_claim.Goals as goal

pub returns : goal.returns
returns c = (reads_recordings, readers_agree, wrong_readers)
