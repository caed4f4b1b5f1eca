-- The reader shows exactly the frames that are laid out, and refuses by the first number whose condition holds. Assumes nothing.
use mathlib.Core.Bool.{false}
use Rattle.definitions.proofs.Claims.{reads_frames}
use Rattle.definitions.proofs.Refusals.{refuses-frames}
use Rattle.definitions.proofs.WrongReaders.{wrong_readers, wrong_refusals}
use Rattle.definitions.proofs.reader_claim.Goals as goal

pub returns : goal.returns
returns c = (reads_frames, refuses-frames false, wrong_readers, wrong_refusals)
