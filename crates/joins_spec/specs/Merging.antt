-- What is claimed of a merge (document 02, n).
use Rattle.std.specs.Prelude.{◌≡◌, List, [], ◌∷◌, ℕ, max, ◌≤◌, ◌<◌, length, take, drop}
use Rattle.bits.specs.Bits.{Octets}
use Rattle.definitions.specs.Frames.{Format, Frame, sid_type}
use Rattle.definitions.specs.Reading.{format_number}
use Rattle.recordings.specs.Claims.{Every}
use Rattle.recordings.specs.ConversionClaims.{ValidRecording}
use Rattle.joins_spec.specs.Joined.{made}
use Rattle.joins_spec.specs.Claims.{JoinCall, Joins}

-- ---- slot by slot

-- the frame in slot i, as a list of one; of none behind the end
abbrev pub in_slot : ℕ → List Frame → List Frame
in_slot i xs = take 1 (drop i xs)

-- zs is the merge of xs and ys. Types up to 9 are speech and SID; those of a recording's frames above it are 14 and 15, SPEECH_LOST and NO_DATA
pub record Slots (xs ys zs : List Frame) : Type 0 where
  -- "Length is that of the longer list"
  pub longer : length zs ≡ max (length xs) (length ys)
  -- "slot by slot the first's frame", at either quality: "A bad frame is kept, not replaced"; all its fields come across
  pub kept : (i : ℕ) (x : Frame) → in_slot i xs ≡ x ∷ [] → x.type ≤ sid_type → in_slot i zs ≡ x ∷ []
  -- "but the second's where the first's is lost or empty", whatever the second's is
  pub filled : (i : ℕ) (x y : Frame) → in_slot i xs ≡ x ∷ [] → sid_type < x.type → in_slot i ys ≡ y ∷ [] → in_slot i zs ≡ y ∷ []
  -- "or has ended and the second still has one"
  pub first_ended : (i : ℕ) → in_slot i xs ≡ [] → in_slot i zs ≡ in_slot i ys
  pub second_ended : (i : ℕ) → in_slot i ys ≡ [] → in_slot i zs ≡ in_slot i xs

-- ---- the claim

-- frames of which none is lost or empty
abbrev pub NoGaps : List Frame → Type 0
NoGaps xs = Every (λ x. x.type ≤ sid_type) xs

pub record Merges (call : JoinCall) : Type 0 where
  pub joins : Joins Slots call
  -- "a first without gaps, no shorter than the second, comes out unchanged"; no 9 is possible there
  pub unchanged : (f : Format) (a b : List ℕ) (xs ys : List Frame) (room : ℕ) → Octets a → Octets b → ValidRecording f a xs → ValidRecording f b ys
      → NoGaps xs → length ys ≤ length xs → length a ≤ room → call (format_number f) a b room ≡ made (length xs, a)
  -- a recording merged with itself is itself
  pub with_itself : (f : Format) (a : List ℕ) (xs : List Frame) (room : ℕ) → Octets a → ValidRecording f a xs → length a ≤ room
      → call (format_number f) a a room ≡ made (length xs, a)

-- the claim leaves no answer free: any two programs that meet it give the same
pub record MergesAgree : Type 0 where
  pub same : (call other : JoinCall) → Merges call → Merges other → (format : ℕ) (a b : List ℕ) (room : ℕ) → Octets a → Octets b
      → call format a b room ≡ other format a b room
