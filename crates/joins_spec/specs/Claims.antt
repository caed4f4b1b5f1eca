-- What is claimed of a call that makes one recording of two, whichever frames it makes of theirs. The call is any program: of some this is true.
use Rattle.std.specs.Prelude.{◌≡◌, ◌↔◌, ◌≢◌, List, ℕ, ◌≤◌, length}
use Rattle.bits.specs.Bits.{Octets}
use Rattle.definitions.specs.Frames.{Format, Frame}
use Rattle.definitions.specs.Reading.{format_number}
use Rattle.recordings.specs.Placed.{refused_at}
use Rattle.recordings.specs.Recordings.{read_recording, write_recording}
use Rattle.recordings.specs.ConversionClaims.{ValidRecording, WritingRefusal}
use Rattle.joins_spec.specs.Joined.{Joined, refused_in, made}

-- a format by its number, two recordings, and the room of the output buffer; frames of the result, and the octets that are written
abbrev pub JoinCall : Type 0
JoinCall = (format : ℕ) → (a b : List ℕ) → (room : ℕ) → Joined (ℕ × List ℕ)

-- that zs are the frames which such a call makes of xs and ys
abbrev pub Makes : Type 1
Makes = (xs ys zs : List Frame) → Type 0

-- the octets w are the valid recording of the k frames that are made of those of a and b, and they have room
pub record JoinedInto (makes : Makes) (format : ℕ) (a b : List ℕ) (room k : ℕ) (w : List ℕ) : Type 0 where
  pub f : Format
  pub known : format ≡ format_number f
  pub xs : List Frame
  pub ys : List Frame
  pub zs : List Frame
  pub first : ValidRecording f a xs
  pub second : ValidRecording f b ys
  pub combined : makes xs ys zs
  pub frames : k ≡ length zs
  pub octets : Octets w
  pub valid : ValidRecording f w zs
  pub fits : length w ≤ room

-- recording i is refused by n, at the frame k and the octet at: 11; the first, then the second, as reading it is; then 9 or 10 for the result
pub data JoinRefusal (makes : Makes) (format : ℕ) (a b : List ℕ) (room : ℕ) : (i n k at : ℕ) → Type 0 where
  no_format : ((f : Format) → format ≢ format_number f) → JoinRefusal makes format a b room 0 11 0 0
  first_refused : {n k at : ℕ} (f : Format) → format ≡ format_number f → read_recording f a ≡ refused_at n k at
      → JoinRefusal makes format a b room 0 n k at
  second_refused : {n k at : ℕ} (f : Format) → format ≡ format_number f → (xs : List Frame) → ValidRecording f a xs → read_recording f b ≡ refused_at n k at
      → JoinRefusal makes format a b room 1 n k at
  writing : {n k at : ℕ} (f : Format) → format ≡ format_number f → (xs ys zs : List Frame) → ValidRecording f a xs → ValidRecording f b ys
      → makes xs ys zs → WritingRefusal (length (write_recording f zs)) room n k at → JoinRefusal makes format a b room 0 n k at

-- the call makes exactly that, and "Each number comes on its stated condition and on no other"
pub record Joins (makes : Makes) (call : JoinCall) : Type 0 where
  pub exactly : (format : ℕ) (a b : List ℕ) (room k : ℕ) (w : List ℕ) → Octets a → Octets b
      → (call format a b room ≡ made (k, w)) ↔ JoinedInto makes format a b room k w
  pub refuses : (format : ℕ) (a b : List ℕ) (room i n k at : ℕ) → Octets a → Octets b
      → (call format a b room ≡ refused_in i n k at) ↔ JoinRefusal makes format a b room i n k at
