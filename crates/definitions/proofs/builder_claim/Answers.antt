-- The builder judges what `Valid` asks, and lays the frame out. Assumes nothing.
use Rattle.definitions.proofs.Claims.{builds_frames}
use Rattle.definitions.proofs.Refusals.{refuses-builds}
use Rattle.definitions.proofs.WrongBuilders.{wrong_builders}
use Rattle.definitions.proofs.builder_claim.Goals as goal

pub returns : goal.returns
returns c = (builds_frames, refuses-builds, wrong_builders)
