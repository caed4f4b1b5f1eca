-- The reader would show both frames. Assumes nothing.
use Rattle.definitions.proofs.Claims.{layouts-differ}
use Rattle.definitions.proofs.WrongBuilders.{wrong_layouts}
use Rattle.definitions.proofs.layout_claim.Goals as goal

pub returns : goal.returns
returns c = (layouts-differ, wrong_layouts)
