-- `joins::merged_octets` meets its contract: what is counted and what is left of both make the whole. Assumes nothing.
use mathlib.Core.Path.{◌≡◌}
use mathlib.Core.List.{List}
use Prim.Native.Nat.{ℕ}
use lib.ListN.{length}
use Rattle.frame.specs.Answers.{format_of}
use Rattle.joins.proofs.SlotLaws.{Passed}
use Rattle.joins.proofs.merged_octets.Given as goal

abbrev pub invariant-loop-a : goal.invariant-loop-a
invariant-loop-a l = (w : List ℕ) × (l.n ≡ length w) × Passed (format_of l.f) l.first l.second w l.a l.b

abbrev pub decreases-loop-a : goal.decreases-loop-a
decreases-loop-a l = length l.a
