-- Demand 2 for the report: what is to be true of a report (document 01, "Reception class and report").
use Rattle.std.specs.Prelude.{◌≡◌, ◌↔◌, List, ℕ, ◌+◌, ◌<◌, ◌≤◌, length}
use Rattle.bits.specs.Bits.{Octets}
use Rattle.definitions.specs.Frames.{storage, Frame}
use Rattle.recordings.specs.Placed.{Placed, refused_at, done}
use Rattle.recordings.specs.Claims.{IsRecording, RecordingRefusal}
use Rattle.recordings.specs.Report.{Report, report_limit, report_of}

-- of a report: the four classes add up to the frames
pub record AddsUp (report : List ℕ → Placed Report) : Type 0 where
  pub sum : (s : List ℕ) (r : Report) → report s ≡ done r → r.speech + r.sid + r.speech_lost + r.no_data ≡ r.frames

-- demand 2, of a report: of a stored recording its length and the counts of its frames by class; "A longer input is refusal 9"; otherwise it
-- is refused as in reading the recording, and on no other condition
pub record Reports (report : List ℕ → Placed Report) : Type 0 where
  pub counts : (s : List ℕ) (xs : List Frame) → Octets s → length s ≤ report_limit → IsRecording storage s xs
      → report s ≡ done (report_of (length s) xs)
  pub longer : (s : List ℕ) → report_limit < length s → report s ≡ refused_at 9 0 0
  pub refuses : (s : List ℕ) (n k at : ℕ) → Octets s → length s ≤ report_limit → (report s ≡ refused_at n k at) ↔ RecordingRefusal storage s n k at
