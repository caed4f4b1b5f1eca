-- Merges that are wrong, which the claims refute. Nothing of the papers is defined here.
use Rattle.std.specs.Prelude.{◌≡◌, ◌≢◌, List, [], ◌∷◌, ◌++◌, ℕ, suc, ◌≤◌, ◌<◌, length}
use Rattle.bits.specs.Bits.{Octets}
use Rattle.definitions.specs.Frames.{Format, storage, Frame, sid_type}
use Rattle.definitions.specs.Reading.{format_number}
use Rattle.recordings.specs.Placed.{refused_at}
use Rattle.recordings.specs.Recordings.{limit, file_header, read_recording, write_recording}
use Rattle.recordings.specs.ConversionClaims.{ValidRecording}
use Rattle.joins_spec.specs.Joined.{refused_in, made}
use Rattle.joins_spec.specs.Claims.{JoinCall}
use Rattle.joins_spec.specs.Merging.{in_slot, Slots, Merges}

-- the recordings a and b of the frames xs and ys
pub record BothValid (f : Format) (a b : List ℕ) (xs ys : List Frame) : Type 0 where
  pub octets_first : Octets a
  pub octets_second : Octets b
  pub first : ValidRecording f a xs
  pub second : ValidRecording f b ys

-- a call makes a recording of the frames zs of two whose frames are xs and ys
pub record Gives (call : JoinCall) (xs ys zs : List Frame) : Type 0 where
  pub f : Format
  pub a : List ℕ
  pub b : List ℕ
  pub of : BothValid f a b xs ys
  pub room : ℕ
  pub k : ℕ
  pub w : List ℕ
  pub answer : call (format_number f) a b room ≡ made (k, w)
  pub valid : ValidRecording f w zs

-- merges that always decline, that replace a bad frame, keep a lost or empty one where the second has speech, take the second's frame from one slot
-- behind, end with the first or write two file headers; and merges that judge the second first or name it for the first's refusal, that do not
-- refuse a result beyond the limit by 9, or answer 10 for a buffer that fits
pub record WrongMerges : Type 0 where
  pub declines : (call : JoinCall) → ((format : ℕ) (a b : List ℕ) (room k : ℕ) (w : List ℕ) → call format a b room ≡ made (k, w) → ⊥) → Merges call → ⊥
  pub bad_replaced : (call : JoinCall) (xs ys zs : List Frame) (i : ℕ) (x : Frame) → Gives call xs ys zs → in_slot i xs ≡ x ∷ [] → x.type ≤ sid_type
      → x.quality ≡ 0 → in_slot i zs ≢ x ∷ [] → Merges call → ⊥
  pub gap_kept : (call : JoinCall) (xs ys zs : List Frame) (i : ℕ) (x y : Frame) → Gives call xs ys zs → in_slot i xs ≡ x ∷ [] → sid_type < x.type
      → in_slot i ys ≡ y ∷ [] → y.type ≤ sid_type → in_slot i zs ≡ x ∷ [] → Merges call → ⊥
  pub one_place_off : (call : JoinCall) (xs ys zs : List Frame) (i : ℕ) (x y : Frame) → Gives call xs ys zs → in_slot i xs ≡ x ∷ [] → sid_type < x.type
      → in_slot i ys ≡ y ∷ [] → in_slot (suc i) ys ≢ y ∷ [] → in_slot i zs ≡ in_slot (suc i) ys → Merges call → ⊥
  pub tail_lost : (call : JoinCall) (xs ys zs : List Frame) → Gives call xs ys zs → length xs < length ys → length zs ≡ length xs → Merges call → ⊥
  pub two_headers : (call : JoinCall) (a b : List ℕ) (zs : List Frame) (room k : ℕ) → Octets a → Octets b
      → call (format_number storage) a b room ≡ made (k, file_header storage ++ write_recording storage zs) → Merges call → ⊥
  pub second_first : (call : JoinCall) (f : Format) (a b : List ℕ) (room n k at n' k' at' : ℕ) → Octets a → Octets b
      → read_recording f a ≡ refused_at n k at → call (format_number f) a b room ≡ refused_in 1 n' k' at' → Merges call → ⊥
  pub limit_missed : (call : JoinCall) (f : Format) (a b : List ℕ) (xs ys zs : List Frame) (room : ℕ) → BothValid f a b xs ys → Slots xs ys zs
      → limit < length (write_recording f zs) → (call (format_number f) a b room ≡ refused_in 0 9 0 0 → ⊥) → Merges call → ⊥
  pub buffer_fits : (call : JoinCall) (f : Format) (a b : List ℕ) (xs ys zs : List Frame) (room : ℕ) → BothValid f a b xs ys → Slots xs ys zs
      → length (write_recording f zs) ≤ room → call (format_number f) a b room ≡ refused_in 0 10 0 0 → Merges call → ⊥
