-- The call judges the format, then as the reader does, then the buffer. Assumes nothing.
use Rattle.definitions.proofs.Claims.{reads_calls}
use Rattle.definitions.proofs.Refusals.{refuses-calls}
use Rattle.definitions.proofs.WrongReaders.{wrong_calls}
use Rattle.definitions.proofs.frame_call_claim.Goals as goal

pub returns : goal.returns
returns c = (reads_calls, refuses-calls, wrong_calls)
