-- `report::count_frames` meets its contract: what is counted and what is still to come make the answer. Assumes nothing.
use Prim.Native.Nat.{◌-◌}
use lib.ListN.{length}
use Rattle.report.specs.Answers.{report_counts}
use Rattle.report.proofs.CountingLaws.{Counted}
use Rattle.report.proofs.count_frames.Given as goal

abbrev pub invariant-loop-at : goal.invariant-loop-at
invariant-loop-at l = Counted l.s l.at (report_counts l.report)

abbrev pub decreases-loop-at : goal.decreases-loop-at
decreases-loop-at l = length l.s - l.at
