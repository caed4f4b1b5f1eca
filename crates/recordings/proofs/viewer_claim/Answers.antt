-- The calls of a viewer hand out the frames as they are laid out, and three wrong viewers do not. Assumes nothing.
use Rattle.recordings.proofs.Viewer.{views_recordings, viewers_agree}
use Rattle.recordings.proofs.WrongViewers.{passes_refused_lem, skips_frames_lem, numbers_none_lem}
use Rattle.recordings.proofs.viewer_claim.Goals as goal

pub returns : goal.returns
returns c = (views_recordings, viewers_agree, passes_refused_lem, skips_frames_lem, numbers_none_lem)
