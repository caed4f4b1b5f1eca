-- The reception class (document 01, "Reception class and report"; TS 26.201 table 1c).
use Rattle.std.specs.Prelude.{◌≡◌, Bool, true, false, ◌&&◌, cond, List, ℕ, ◌≤◌, length, get_or, eqb, leb}
use Rattle.definitions.specs.Outcome.{Outcome, ok, unless}
use Rattle.definitions.specs.Frames.{Frame, frame_by, highest_mode, sid_type, speech_lost_type, no_data_type, highest_type, sti_at, known, core_bits, sid_core}

pub data SpeechClass : Type 0 where
  speech_good speech_bad : SpeechClass

pub data SidClass : Type 0 where
  sid_first sid_update sid_bad : SidClass

-- document 01's comfort frame is a SID frame; its lost is SPEECH_LOST and its empty NO_DATA
pub data Reception : Type 0 where
  speech : SpeechClass → Reception
  sid : SidClass → Reception
  speech_lost no_data : Reception

abbrev pub speech_class : Bool → SpeechClass
speech_class true = speech_good
speech_class false = speech_bad

-- by quality, and then by STI
abbrev pub sid_class : Bool → Bool → SidClass
sid_class false sti = sid_bad
sid_class true false = sid_first
sid_class true true = sid_update

-- of a type that is known
abbrev pub class_of : ℕ → Bool → Bool → Reception
class_of t good sti =
    cond (leb t highest_mode) (speech (speech_class good)) (cond (eqb t sid_type) (sid (sid_class good sti)) (cond (eqb t speech_lost_type) speech_lost no_data))

-- of a frame
abbrev pub frame_class : Frame → Reception
frame_class x = class_of x.type (eqb x.quality 1) (get_or x.core sti_at false)

-- a call by numbers
unfoldable pub reception_class : ℕ → ℕ → ℕ → Outcome Reception
reception_class t q sti =
    unless 11 (leb t highest_type && (leb q 1 && leb sti 1))
    (unless 2 (known t)
    (ok (class_of t (eqb q 1) (eqb sti 1))))

-- ---- what is to be true of the class of a frame

abbrev pub Classifier : Type 0
Classifier = Frame → Reception

-- "Types 0 to 8 are speech, good or bad; a comfort frame is first, update or bad, told by quality and then STI; type 14 is lost, 15 is empty, at
-- either quality", and by nothing else: not by the other bits of the core, nor by indication and request
pub record ClassifiesFrames (classify : Classifier) : Type 0 where
  pub good_speech : (t i r : ℕ) (core : List Bool) → t ≤ highest_mode → classify (frame_by t 1 i r core) ≡ speech speech_good
  pub bad_speech : (t i r : ℕ) (core : List Bool) → t ≤ highest_mode → classify (frame_by t 0 i r core) ≡ speech speech_bad
  pub first_sid : (i r mode : ℕ) (s : List Bool) → length s ≡ sti_at → classify (frame_by sid_type 1 i r (sid_core s false mode)) ≡ sid sid_first
  pub update_sid : (i r mode : ℕ) (s : List Bool) → length s ≡ sti_at → classify (frame_by sid_type 1 i r (sid_core s true mode)) ≡ sid sid_update
  pub bad_sid : (i r mode : ℕ) (s : List Bool) (sti : Bool) → length s ≡ sti_at → classify (frame_by sid_type 0 i r (sid_core s sti mode)) ≡ sid sid_bad
  pub lost : (q i r : ℕ) (core : List Bool) → q ≤ 1 → classify (frame_by speech_lost_type q i r core) ≡ speech_lost
  pub empty : (q i r : ℕ) (core : List Bool) → q ≤ 1 → classify (frame_by no_data_type q i r core) ≡ no_data

-- the claim decides every class: two such classifiers agree on each frame of a known type whose quality and core are as a format has them
pub record ClassesFixed : Type 0 where
  pub same : (c d : Classifier) → ClassifiesFrames c → ClassifiesFrames d → (x : Frame) → known x.type ≡ true → x.quality ≤ 1
      → length x.core ≡ core_bits x.type → c x ≡ d x
