-- `recording_reader::scan_frames` meets its contract: what is counted and what is still to come make the answer. Assumes nothing.
use Prim.Native.Nat.{◌-◌}
use lib.ListN.{length}
use Rattle.frame.specs.Answers.{format_of}
use Rattle.recording_reader.proofs.ScanLaws.{Counted}
use Rattle.recording_reader.proofs.scan_frames.Given as goal

abbrev pub invariant-loop-at : goal.invariant-loop-at
invariant-loop-at l = Counted (format_of l.f) (format_of l.g) l.s l.at l.counts.frames l.counts.octets

abbrev pub decreases-loop-at : goal.decreases-loop-at
decreases-loop-at l = length l.s - l.at
