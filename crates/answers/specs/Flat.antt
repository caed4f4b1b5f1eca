-- The answers that the levels of the C interface share, as numbers. Every field that is not named for an answer is 0, and at a refusal every field
-- but its number and place is. A refusal of a call for one frame carries frame and octet 0 (document 01, "Order").
use Rattle.std.specs.Prelude.{◌≡◌, List, ℕ}
use Rattle.definitions.specs.Outcome.{Outcome, refused, ok}
use Rattle.definitions.specs.Frames.{Frame}
use Rattle.definitions.specs.Reading.{counted, output_after, core_after}
use Rattle.recordings.specs.Placed.{Placed, refused_at, done}
use Rattle.recordings.specs.Conversion.{counted_at, buffer_after}
use Rattle.answers.specs.declared.Answer.{Answer}
use Rattle.answers.specs.declared.FrameAnswer.{FrameAnswer}

-- a call over a recording: frames read, and octets written or to be written
abbrev pub placed_numbers : Placed (ℕ × ℕ) → Answer
placed_numbers (refused_at n k at) = record { refusal = n; frame = k; octet = at; frames = 0; octets = 0 }
placed_numbers (done y) = record { refusal = 0; frame = 0; octet = 0; frames = y.0; octets = y.1 }

-- a call for one frame: octets written
abbrev pub answer_numbers : Outcome ℕ → Answer
answer_numbers (refused n) = record { refusal = n; frame = 0; octet = 0; frames = 0; octets = 0 }
answer_numbers (ok m) = record { refusal = 0; frame = 0; octet = 0; frames = 0; octets = m }

-- a call that converts: the answer, and the output buffer, d₀ before and d after it
pub record FlatConversion (o : Placed (ℕ × List ℕ)) (d₀ d : List ℕ) (r : Answer) : Type 0 where
  pub answer : r ≡ placed_numbers (counted_at o)
  pub buffer : d ≡ buffer_after o d₀

-- a call that builds a frame: the answer, and the output buffer
pub record FlatOutput (o : Outcome (List ℕ)) (d₀ d : List ℕ) (r : Answer) : Type 0 where
  pub answer : r ≡ answer_numbers (counted o)
  pub buffer : d ≡ output_after o d₀

-- the fields, and the octets of the packed core
abbrev pub frame_numbers : Outcome (Frame × ℕ) → FrameAnswer
frame_numbers (refused n) = record {
  refusal = n;
  frame = 0;
  octet = 0;
  frame_type = 0;
  quality = 0;
  indication = 0;
  request = 0;
  core_octets = 0;
}
frame_numbers (ok y) = record {
  refusal = 0;
  frame = 0;
  octet = 0;
  frame_type = y.0.type;
  quality = y.0.quality;
  indication = y.0.indication;
  request = y.0.request;
  core_octets = y.1;
}

-- a call that reads a frame: the answer, and the core's buffer, d₀ before and d after it
pub record FlatFrame (o : Outcome (Frame × ℕ)) (d₀ d : List ℕ) (r : FrameAnswer) : Type 0 where
  pub answer : r ≡ frame_numbers o
  pub buffer : d ≡ core_after o d₀
