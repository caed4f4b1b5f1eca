-- What the answers of the state's calls say: document 01's number and values for each case.
use Rattle.std.specs.Prelude.{List, ℕ, ◌&&◌, ◌%◌, Option, Some, None, Result, Ok, Err, cond, eqb, get_or, length}
use Rattle.frame.specs.declared.Refusal.{Refusal}
use Rattle.frame.specs.Answers.{number_of}
use Rattle.links.specs.declared.Combination.{Combination}
use Rattle.links.specs.declared.RfcSet.{RfcSet}
use Rattle.links.specs.declared.Link.{Link}
use Rattle.links.specs.Sets.{combination, set_good, rfc_set}
use Rattle.links.specs.Calls.{in_fives}
use Rattle.links.specs.History.{Reply, refusal, accepted}

-- what a call answers, and the state after it: the answer's, or after a refusal the caller's
abbrev pub moved_of : Link → Result Link Refusal → Reply × Link
moved_of l (Ok m) = (accepted, m)
moved_of l (Err e) = (refusal (number_of e), l)

-- the combination that five numbers write
abbrev pub five : List ℕ → Combination
five ns = combination (get_or ns 0 0) (get_or ns 1 0) (get_or ns 2 0) (get_or ns 3 0) (get_or ns 4 0)

-- the set that numbers write, five for each combination, if it is a good one
abbrev pub set_of : List ℕ → Option RfcSet
set_of ns = cond (eqb (length ns % 5) 0 && set_good (in_fives ns)) (Some (rfc_set (in_fives ns))) None
