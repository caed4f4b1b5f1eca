-- `link_state::set_in` meets its contract: the combinations of the rows so far are good, and stored in the first places. Assumes nothing.
use Rattle.std.proofs.Common.{◌≡◌, true, map, take}
use Rattle.links.specs.Sets.{all_good}
use Rattle.link_state.specs.Answers.{five}
use Rattle.link_state.proofs.RowLaws.{stored}
use Rattle.link_state.proofs.set_in.Given as goal

abbrev pub invariant-loop-n : goal.invariant-loop-n
invariant-loop-n l = record {
  held : l.places ≡ stored l.n l.rows;
  good : all_good (map five (take l.n l.rows)) ≡ true;
}
