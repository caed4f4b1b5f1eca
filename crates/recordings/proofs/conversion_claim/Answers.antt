-- The conversion meets demand 2, and four wrong converters do not. Assumes nothing.
use Rattle.recordings.proofs.Conversions.{converts_frames}
use Rattle.recordings.proofs.WrongConverters.{drops-last-refused, inverts-d0-refused, counts-one-more-refused, wants-one-more-refused}
use Rattle.recordings.proofs.conversion_claim.Goals as goal

pub returns : goal.returns
returns c = (converts_frames, drops-last-refused, inverts-d0-refused, counts-one-more-refused, wants-one-more-refused)
