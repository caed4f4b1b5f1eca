-- What is not a reader of recordings (document 01, "The acceptance visit", 2).
use Rattle.std.specs.Prelude.{◌≡◌, cond, List, ℕ, take, leb}
use Rattle.definitions.specs.Frames.{Format, Frame}
use Rattle.recordings.specs.Placed.{Placed, refused_at, done}
use Rattle.recordings.specs.Recordings.{read_recording}
use Rattle.recordings.specs.Claims.{RecordingReader, ReadsRecordings}

-- one that shows the frames in front of a refused one, as if the recording ended there
abbrev pub cut_off : Format → List ℕ → Placed (List Frame) → Placed (List Frame)
cut_off f s (refused_at n k at) = cond (leb n 7) (read_recording f (take at s)) (refused_at n k at)
cut_off f s (done xs) = done xs

abbrev pub ends_at_refused : RecordingReader
ends_at_refused f s = cut_off f s (read_recording f s)

-- one that gives frame 0 and octet 0 with every refusal
abbrev pub without_place : Placed (List Frame) → Placed (List Frame)
without_place (refused_at n k at) = refused_at n 0 0
without_place (done xs) = done xs

abbrev pub names_no_place : RecordingReader
names_no_place f s = without_place (read_recording f s)

pub record WrongRecordingReaders : Type 0 where
  -- any that always declines
  pub declines : (read : RecordingReader) → ((f : Format) (s : List ℕ) (xs : List Frame) → read f s ≡ done xs → ⊥) → ReadsRecordings read → ⊥
  pub ends : ReadsRecordings ends_at_refused → ⊥
  pub no_place : ReadsRecordings names_no_place → ⊥
