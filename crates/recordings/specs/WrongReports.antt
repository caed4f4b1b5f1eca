-- What is not a report: its counts are not those of the recording's frames (document 01, "The acceptance visit", 2: invented frame counts, and
-- "lost" before reading).
use Rattle.std.specs.Prelude.{List, ℕ, suc}
use Rattle.recordings.specs.Placed.{Placed, done, and_then_at}
use Rattle.recordings.specs.Report.{Report, report_call}

-- one that counts a lost frame before it reads; its classes add up
abbrev pub one_lost : Report → Report
one_lost r = record {
  octets = r.octets;
  frames = suc r.frames;
  speech = r.speech;
  sid = r.sid;
  speech_lost = suc r.speech_lost;
  no_data = r.no_data;
}

abbrev pub lost_before_reading : List ℕ → Placed Report
lost_before_reading s = and_then_at (report_call s) (λ r. done (one_lost r))

-- one that counts every frame as speech; its classes add up, too
abbrev pub all_speech : Report → Report
all_speech r = record { octets = r.octets; frames = r.frames; speech = r.frames; sid = 0; speech_lost = 0; no_data = 0 }

abbrev pub counts_as_speech : List ℕ → Placed Report
counts_as_speech s = and_then_at (report_call s) (λ r. done (all_speech r))
