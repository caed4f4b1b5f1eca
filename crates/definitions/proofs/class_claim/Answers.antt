-- The class reads quality and d(35) of a SID frame, and nothing else of it. Assumes nothing.
use Rattle.definitions.proofs.Classes.{classifies_frames, classes_fixed, sti_at_34_lem, sti_before_quality_lem}
use Rattle.definitions.proofs.class_claim.Goals as goal

pub returns : goal.returns
returns c = (classifies_frames, classes_fixed, sti_at_34_lem, sti_before_quality_lem)
