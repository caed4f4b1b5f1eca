-- A converter that meets demand 2, as the conversion does, meets demand 3; the one that copies the first frame only does not. Assumes nothing.
use Rattle.recordings.proofs.Demand3.{rests_on_demand_two, demand_three}
use Rattle.recordings.proofs.WrongConverters.{first-only-refused}
use Rattle.recordings.proofs.demand_three_claim.Goals as goal

pub returns : goal.returns
returns c = (rests_on_demand_two, demand_three, first-only-refused)
