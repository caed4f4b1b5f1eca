-- The same, with nothing behind the frame. Assumes nothing.
use mathlib.Core.Bool.{true}
use Rattle.definitions.proofs.Claims.{reads_one_frame}
use Rattle.definitions.proofs.Refusals.{refuses-frames}
use Rattle.definitions.proofs.WrongReaders.{wrong_single_readers}
use Rattle.definitions.proofs.single_reader_claim.Goals as goal

pub returns : goal.returns
returns c = (reads_one_frame, refuses-frames true, wrong_single_readers)
