-- The answers of level two's own calls as numbers. Every field that is not named for an answer is 0, and at a refusal every field but its
-- number and place is. A refusal of a call for one frame carries frame and octet 0 (document 01, "Order").
use Rattle.std.specs.Prelude.{◌≡◌, List, ℕ}
use Rattle.definitions.specs.Outcome.{Outcome, refused, ok}
use Rattle.definitions.specs.Frames.{core_octets}
use Rattle.definitions.specs.Reception.{SpeechClass, speech_good, speech_bad, SidClass, sid_first, sid_update, sid_bad, Reception, speech, sid, speech_lost, no_data, frame_class}
use Rattle.recordings.specs.Placed.{Placed, refused_at, done}
use Rattle.recordings.specs.Viewer.{View, shows, end, view_after}
use Rattle.recordings.specs.Report.{Report}
use Rattle.level_two.specs.declared.ClassAnswer.{ClassAnswer}
use Rattle.level_two.specs.declared.ViewAnswer.{ViewAnswer}
use Rattle.level_two.specs.declared.ReportAnswer.{ReportAnswer}

-- the interface's own numbers; document 01 gives the classes none
abbrev pub speech_number : SpeechClass → ℕ
speech_number speech_good = 1
speech_number speech_bad = 2

abbrev pub sid_number : SidClass → ℕ
sid_number sid_first = 3
sid_number sid_update = 4
sid_number sid_bad = 5

abbrev pub class_number : Reception → ℕ
class_number (speech s) = speech_number s
class_number (sid s) = sid_number s
class_number speech_lost = 6
class_number no_data = 7

abbrev pub class_numbers : Outcome Reception → ClassAnswer
class_numbers (refused n) = record { refusal = n; frame = 0; octet = 0; class = 0 }
class_numbers (ok c) = record { refusal = 0; frame = 0; octet = 0; class = class_number c }

-- a viewer's answer that shows no frame, with the number and the offset for the next call
abbrev pub unshown : (refusal frame octet end number offset : ℕ) → ViewAnswer
unshown n k at e number offset = record {
  refusal = n;
  frame = k;
  octet = at;
  end = e;
  frame_type = 0;
  quality = 0;
  indication = 0;
  request = 0;
  core_octets = 0;
  offset = offset;
  number = number;
  class = 0;
}

-- opened: the number and the offset of the first frame
abbrev pub open_numbers : Placed (ℕ × ℕ) → ViewAnswer
open_numbers (refused_at n k at) = unshown n k at 0 0 0
open_numbers (done place) = unshown 0 0 0 0 place.0 place.1

-- the frame's fields, the octets of its packed core and its class, or the end; number and offset stay as given at the end and at a refusal
abbrev pub view_numbers : Placed View → ℕ × ℕ → ViewAnswer
view_numbers (refused_at n k at) place = unshown n k at 0 place.0 place.1
view_numbers (done end) place = unshown 0 0 0 1 place.0 place.1
view_numbers (done (shows x number offset)) place = record {
  refusal = 0;
  frame = 0;
  octet = 0;
  end = 0;
  frame_type = x.type;
  quality = x.quality;
  indication = x.indication;
  request = x.request;
  core_octets = core_octets x.type;
  offset = offset;
  number = number;
  class = class_number (frame_class x);
}

-- a call that shows a frame: the answer, and the core's buffer, d₀ before and d after it
pub record FlatView (o : Placed View) (place : ℕ × ℕ) (d₀ d : List ℕ) (r : ViewAnswer) : Type 0 where
  pub answer : r ≡ view_numbers o place
  pub buffer : d ≡ view_after o d₀

-- the report, by document 01's words
abbrev pub report_numbers : Placed Report → ReportAnswer
report_numbers (refused_at n k at) = record {
  refusal = n;
  frame = k;
  octet = at;
  octets = 0;
  frames = 0;
  speech = 0;
  comfort = 0;
  lost = 0;
  empty = 0;
}
report_numbers (done r) = record {
  refusal = 0;
  frame = 0;
  octet = 0;
  octets = r.octets;
  frames = r.frames;
  speech = r.speech;
  comfort = r.sid;
  lost = r.speech_lost;
  empty = r.no_data;
}
