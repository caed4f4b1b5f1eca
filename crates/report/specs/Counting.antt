-- A report that grows a frame at a time.
use Rattle.std.specs.Prelude.{ℕ, ◌+◌, ◌≤◌}
use Rattle.bits.specs.Bits.{one_if}
use Rattle.definitions.specs.Reception.{Reception}
use Rattle.recordings.specs.Report.{Report, is_speech, is_sid, is_speech_lost, is_no_data}

-- one frame more, of class c
abbrev pub one_more : Report → Reception → Report
one_more r c = record {
  octets = r.octets;
  frames = r.frames + 1;
  speech = r.speech + one_if (is_speech c);
  sid = r.sid + one_if (is_sid c);
  speech_lost = r.speech_lost + one_if (is_speech_lost c);
  no_data = r.no_data + one_if (is_no_data c);
}

-- no count is above n
pub record AtMost (n : ℕ) (r : Report) : Type 0 where
  pub frames_fit : r.frames ≤ n
  pub speech_fit : r.speech ≤ n
  pub sid_fit : r.sid ≤ n
  pub lost_fit : r.speech_lost ≤ n
  pub none_fit : r.no_data ≤ n
