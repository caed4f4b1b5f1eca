-- Two programs that meet the claim give the same answers, since it says of each answer when it is given. Assumes nothing.
use Rattle.joins_spec.specs.Merging.{Slots, MergesAgree}
use Rattle.joins_spec.proofs.Joining.{joins_agree}

pub merges_agree : MergesAgree
merges_agree = record { same = λ call other m n. joins_agree Slots call other m.joins n.joins }
