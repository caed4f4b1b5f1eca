-- `recording_writer::write_frames` meets its contract: what is written and what is still to come make the conversion. Assumes nothing.
use Prim.Native.Nat.{◌-◌}
use lib.ListN.{length}
use Rattle.frame.specs.Answers.{format_of}
use Rattle.recording_writer.proofs.WriteLaws.{Written}
use Rattle.recording_writer.proofs.write_frames.Given as goal

abbrev pub invariant-loop-at : goal.invariant-loop-at
invariant-loop-at l = Written (format_of l.c.from) (format_of l.c.to) l.c.request l.s l.initial.out l.out l.at l.to

abbrev pub decreases-loop-at : goal.decreases-loop-at
decreases-loop-at l = length l.s - l.at
