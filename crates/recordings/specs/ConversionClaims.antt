-- Demand 2 for the conversion: what is to be true of a converter (document 01, "Recordings and conversion", first paragraph, "Refused because
-- of the input" and "Order").
use Rattle.std.specs.Prelude.{◌≡◌, ◌↔◌, ◌≢◌, List, map, ℕ, ◌<◌, ◌≤◌, length}
use Rattle.bits.specs.Bits.{Octets}
use Rattle.definitions.specs.Frames.{Format, highest_mode, Frame}
use Rattle.definitions.specs.Reading.{format_number}
use Rattle.recordings.specs.Placed.{Placed, refused_at, done}
use Rattle.recordings.specs.Recordings.{limit, read_recording}
use Rattle.recordings.specs.Conversion.{carried, converted}

-- "A recording is accepted in a format": s is valid in the format, and xs is its list of frames
abbrev pub ValidRecording : Format → List ℕ → List Frame → Type 0
ValidRecording f s xs = read_recording f s ≡ done xs

-- a call that converts: formats and request by number, the recording, and the room of the output buffer
abbrev pub Converter : Type 0
Converter = (from to request : ℕ) → List ℕ → (room : ℕ) → Placed (ℕ × List ℕ)

-- ---- what is written

-- the octets w are a valid recording of the format g, whose frames are xs carried over from the format f
pub record CarriedOver (f g : Format) (r : ℕ) (xs : List Frame) (w : List ℕ) : Type 0 where
  pub octets : Octets w
  pub valid : ValidRecording g w (map (carried g f r) xs)

-- ---- when a call is refused

-- 11, "any other argument out of its range": a number that is no format's, or a request above 8
pub data OutOfRange (from to request : ℕ) : Type 0 where
  no_source : ((f : Format) → from ≢ format_number f) → OutOfRange from to request
  no_target : ((g : Format) → to ≢ format_number g) → OutOfRange from to request
  request_above : highest_mode < request → OutOfRange from to request

-- of so many octets for so much room: "9 recording too long, .. about to be written; 10 lent output shorter than needed", in this order
pub data WritingRefusal (size room : ℕ) : (n k at : ℕ) → Type 0 where
  too_long : limit < size → WritingRefusal size room 9 0 0
  no_room : size ≤ limit → room < size → WritingRefusal size room 10 0 0

-- the number n with the frame k and the octet at: 11; then the reading's own refusals; then those of writing
pub data ConversionRefusal (from to request : ℕ) (s : List ℕ) (room : ℕ) : (n k at : ℕ) → Type 0 where
  argument : OutOfRange from to request → ConversionRefusal from to request s room 11 0 0
  reading : {n k at : ℕ} (f g : Format) → from ≡ format_number f → to ≡ format_number g → request ≤ highest_mode → read_recording f s ≡ refused_at n k at
      → ConversionRefusal from to request s room n k at
  writing : {n k at : ℕ} (f g : Format) → from ≡ format_number f → to ≡ format_number g → request ≤ highest_mode → (xs : List Frame) → ValidRecording f s xs
      → WritingRefusal (length (converted f g request xs)) room n k at → ConversionRefusal from to request s room n k at

-- Demand 2, of the converter c, for all pairs of formats, a format to itself too
pub record ConvertsFrames (c : Converter) : Type 0 where
  -- "A conversion writes the frames that it read, as document 01 carries them over", and counts them
  pub writes : (f g : Format) (r : ℕ) → r ≤ highest_mode → (s : List ℕ) (xs : List Frame) (room : ℕ) → Octets s → ValidRecording f s xs
      → length (converted f g r xs) ≤ limit → length (converted f g r xs) ≤ room
      → (w : List ℕ) × (c (format_number f) (format_number g) r s room ≡ done (length xs, w)) × CarriedOver f g r xs w
  -- "Each number comes on its stated condition and on no other"
  pub refuses : (from to request : ℕ) (s : List ℕ) (room n k at : ℕ) → Octets s
      → (c from to request s room ≡ refused_at n k at) ↔ ConversionRefusal from to request s room n k at
