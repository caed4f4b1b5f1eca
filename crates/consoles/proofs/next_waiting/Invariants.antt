-- `consoles::next_waiting`: the search from here on finds what the whole search finds. Assumes nothing.
use Rattle.std.proofs.Common.{◌≡◌, ◌+◌, ◌-◌}
use Rattle.consoles_spec.specs.Calls.{first_waiting}
use Rattle.consoles.proofs.next_waiting.Given as goal

abbrev pub invariant-loop-k : goal.invariant-loop-k
invariant-loop-k l = record {
  left : first_waiting l.consoles.waiting (l.start + l.k) (8 - l.k) ≡ first_waiting l.consoles.waiting l.start 8;
}
