-- The report (document 01, "Reception class and report").
use Rattle.std.specs.Prelude.{Bool, true, false, List, [], ◌∷◌, ℕ, ◌+◌, length, leb}
use Rattle.bits.specs.Bits.{one_if}
use Rattle.definitions.specs.Frames.{storage, Frame}
use Rattle.definitions.specs.Reception.{Reception, speech, sid, speech_lost, no_data, frame_class}
use Rattle.recordings.specs.Placed.{Placed, done, unless_at, and_then_at}
use Rattle.recordings.specs.Recordings.{read_recording}

-- "a stored recording of at most 65,536 octets"
abbrev pub report_limit : ℕ
report_limit = 65536

-- document 01's lines: octets, frames, speech, comfort, lost and empty
pub record Report : Type 0 where
  pub octets : ℕ
  pub frames : ℕ
  pub speech : ℕ
  pub sid : ℕ
  pub speech_lost : ℕ
  pub no_data : ℕ

-- "The last four count frames by class"
abbrev pub is_speech : Reception → Bool
is_speech (speech c) = true
is_speech (sid c) = false
is_speech speech_lost = false
is_speech no_data = false

abbrev pub is_sid : Reception → Bool
is_sid (speech c) = false
is_sid (sid c) = true
is_sid speech_lost = false
is_sid no_data = false

abbrev pub is_speech_lost : Reception → Bool
is_speech_lost (speech c) = false
is_speech_lost (sid c) = false
is_speech_lost speech_lost = true
is_speech_lost no_data = false

abbrev pub is_no_data : Reception → Bool
is_no_data (speech c) = false
is_no_data (sid c) = false
is_no_data speech_lost = false
is_no_data no_data = true

-- the frames whose class passes a test
abbrev pub how_many : (Reception → Bool) → List Frame → ℕ
how_many test [] = 0
how_many test (x ∷ xs) = one_if (test (frame_class x)) + how_many test xs

abbrev pub report_of : (octets : ℕ) → List Frame → Report
report_of n xs = record {
  octets = n;
  frames = length xs;
  speech = how_many is_speech xs;
  sid = how_many is_sid xs;
  speech_lost = how_many is_speech_lost xs;
  no_data = how_many is_no_data xs;
}

-- "A longer input is refusal 9"; then as in reading a recording
unfoldable pub report_call : List ℕ → Placed Report
report_call s = unless_at 9 (leb (length s) report_limit) (and_then_at (read_recording storage s) (λ xs. done (report_of (length s) xs)))
