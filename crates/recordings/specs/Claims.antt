-- Demand 2 for recordings: what is to be true of a reader of recordings.
use Rattle.std.specs.Prelude.{◌≡◌, ◌↔◌, ◌≢◌, List, [], ◌∷◌, ℕ, ◌≤◌, ◌<◌, length, take, drop}
use Rattle.bits.specs.Bits.{Octets}
use Rattle.definitions.specs.Outcome.{refused}
use Rattle.definitions.specs.Frames.{Format, Frame}
use Rattle.definitions.specs.Reading.{read_frame}
use Rattle.definitions.specs.Claims.{Valid}
use Rattle.recordings.specs.Placed.{Placed, refused_at, done}
use Rattle.recordings.specs.Recordings.{limit, file_header, write_recording}

pub data Every (P : Frame → Type 0) : List Frame → Type 0 where
  none : Every P []
  first : {x : Frame} {xs : List Frame} → P x → Every P xs → Every P (x ∷ xs)

-- the octets are the file header and the layouts of valid frames end to end, within the limit
pub record IsRecording (f : Format) (s : List ℕ) (xs : List Frame) : Type 0 where
  pub valid : Every (Valid f) xs
  pub laid : s ≡ write_recording f xs
  pub within : length s ≤ limit

-- "The walk stops at the first refused frame": valid frames come first, as many as the refusal's frame number and up to its octet; octets are
-- left there, and the frame reader refuses them
pub record StopsAt (f : Format) (s : List ℕ) (n k at : ℕ) : Type 0 where
  pub xs : List Frame
  pub valid : Every (Valid f) xs
  pub number : length xs ≡ k
  pub laid : take at s ≡ write_recording f xs
  pub octet : length (write_recording f xs) ≡ at
  pub left : at < length s
  pub refusal : read_frame f (drop at s) ≡ refused n

-- in front of the frames: "9 recording too long"; of those within the limit "8 stored header"
pub data FrontRefusal (f : Format) (s : List ℕ) : (n : ℕ) → Type 0 where
  too_long : limit < length s → FrontRefusal f s 9
  other_header : length s ≤ limit → take (length (file_header f)) s ≢ file_header f → FrontRefusal f s 8

-- what refuses a recording, with the place of the refusal: frame and octet are "both 0 outside a recording's frames"
pub data RecordingRefusal (f : Format) (s : List ℕ) : (n k at : ℕ) → Type 0 where
  in_front : {n : ℕ} → FrontRefusal f s n → RecordingRefusal f s n 0 0
  stops_at : {n k at : ℕ} → length s ≤ limit → StopsAt f s n k at → RecordingRefusal f s n k at

abbrev pub RecordingReader : Type 0
RecordingReader = Format → List ℕ → Placed (List Frame)

-- demand 2, of a reader of recordings: it shows the frames xs exactly where the octets are their recording, so that no octets have two
-- lists; and "Each number comes on its stated condition and on no other", with the place of the first frame that is refused
pub record ReadsRecordings (read : RecordingReader) : Type 0 where
  pub exactly : (f : Format) (s : List ℕ) (xs : List Frame) → Octets s → (read f s ≡ done xs) ↔ IsRecording f s xs
  pub unique : (f : Format) (s : List ℕ) (xs ys : List Frame) → Octets s → IsRecording f s xs → IsRecording f s ys → xs ≡ ys
  pub refuses : (f : Format) (s : List ℕ) (n k at : ℕ) → Octets s → (read f s ≡ refused_at n k at) ↔ RecordingRefusal f s n k at

-- nothing is left open: any two such readers answer the same
pub record ReadersAgree : Type 0 where
  pub same : (read other : RecordingReader) → ReadsRecordings read → ReadsRecordings other
      → (f : Format) (s : List ℕ) → Octets s → read f s ≡ other f s
