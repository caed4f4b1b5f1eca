-- Demand 3, of a converter (document 01, "Recordings and conversion", second and third paragraphs, and "CRC"; the owner's third demand).
use Rattle.std.specs.Prelude.{◌≡◌, Bool, cond, ◌↔◌, ◌≢◌, List, ◌∷◌, ◌++◌, ℕ, ◌+◌, ◌*◌, ◌<◌, ◌≤◌, length, take, drop}
use Rattle.bits.specs.Bits.{Octets, bits}
use Rattle.parity.specs.Claims.{Apart}
use Rattle.definitions.specs.Frames.{Format, if1, if2, storage, highest_mode, sid_type, crc_bits, crc_at, if1_core_at, Frame, class_a, carries_modes}
use Rattle.definitions.specs.Reading.{format_number}
use Rattle.recordings.specs.Placed.{refused_at, done}
use Rattle.recordings.specs.Recordings.{limit, layouts}
use Rattle.recordings.specs.Conversion.{converted}
use Rattle.recordings.specs.Claims.{Every}
use Rattle.recordings.specs.ConversionClaims.{ValidRecording, Converter, WritingRefusal, ConvertsFrames}

-- "each speech frame's mode indication is its own type and each speech or comfort frame's mode request is r"
pub record Kept (r : ℕ) (x : Frame) : Type 0 where
  pub indication_is_type : x.type ≤ highest_mode → x.indication ≡ x.type
  pub request_is_r : x.type ≤ sid_type → x.request ≡ r

-- the recordings that a round trip returns unchanged: from IF2 and storage format every one
abbrev pub Returns : Format → ℕ → List Frame → Type 0
Returns if1 r xs = Every (Kept r) xs
Returns if2 r xs = Unit {0}
Returns storage r xs = Unit {0}

-- A round trip of the valid recording s of the frames xs by the converter c: to the format g, and what was written back to f. Neither call
-- is refused once it is lent the octets that it needs: the first those of the definition, the second as many as s has.
pub record RoundTrip (c : Converter) (f g : Format) (r : ℕ) (s : List ℕ) (xs : List Frame) : Type 0 where
  pub there : List ℕ
  pub out : (room : ℕ) → length (converted f g r xs) ≤ room → c (format_number f) (format_number g) r s room ≡ done (length xs, there)
  pub back : List ℕ
  pub home : (room : ℕ) → length s ≤ room → c (format_number g) (format_number f) r there room ≡ done (length xs, back)
  pub unchanged : (back ≡ s) ↔ Returns f r xs

-- the way back, of a recording of so many octets into so much room: "the second by 10"
pub data BackRefusal (size room : ℕ) : (n k at : ℕ) → Type 0 where
  no_room_back : room < size → BackRefusal size room 10 0 0

-- When the calls of such a round trip are refused, whatever they are lent: "The first can be refused by 9 for what it would write or by 10, the
-- second by 10, neither by anything else." The second takes what a first call that was not refused wrote.
pub record TripRefusals (c : Converter) (f g : Format) (r : ℕ) (s : List ℕ) (xs : List Frame) : Type 0 where
  pub out : (room n k at : ℕ)
      → (c (format_number f) (format_number g) r s room ≡ refused_at n k at) ↔ WritingRefusal (length (converted f g r xs)) room n k at
  pub home : (lent : ℕ) (y : ℕ × List ℕ) → c (format_number f) (format_number g) r s lent ≡ done y
      → (room n k at : ℕ) → (c (format_number g) (format_number f) r y.1 room ≡ refused_at n k at) ↔ BackRefusal (length s) room n k at

-- In an IF1 frame of type t the CRC octet begins at bit `crc_at` and Class A follows it: so many bits. Types 14 and 15 have neither.
abbrev pub guarded_bits : ℕ → ℕ
guarded_bits t = cond (carries_modes if1 t) (crc_bits + class_a t) 0

-- two recordings have equal octets but for Class A and CRC of the frame of type t that begins at octet p
pub record OnlyGuardedDiffer (p t : ℕ) (a b : List ℕ) : Type 0 where
  pub as_many : length a ≡ length b
  pub in_front : take (8 * p + crc_at) (bits a) ≡ take (8 * p + crc_at) (bits b)
  pub behind : drop (8 * p + crc_at + guarded_bits t) (bits a) ≡ drop (8 * p + crc_at + guarded_bits t) (bits b)

-- these bits in the order in which document 01 counts their places: Class A, then CRC(7) to CRC(0)
abbrev pub guarded_at : (p t : ℕ) → List ℕ → List Bool
guarded_at p t s = take (class_a t) (drop (8 * p + if1_core_at) (bits s)) ++ take crc_bits (drop (8 * p + crc_at) (bits s))

-- Demand 3, of the converter c
pub record Demand3 (c : Converter) : Type 0 where
  -- "octets are equal exactly when their lists of frames are equal, field for field"
  pub same : (f : Format) (a b : List ℕ) (xs ys : List Frame) → Octets a → Octets b → ValidRecording f a xs → ValidRecording f b ys
      → (a ≡ b) ↔ (xs ≡ ys)
  -- the round trips "in which what the first would write is within the length limit"
  pub trip : (f g : Format) → f ≢ g → (r : ℕ) → r ≤ highest_mode → (s : List ℕ) (xs : List Frame) → Octets s → ValidRecording f s xs
      → length (converted f g r xs) ≤ limit → RoundTrip c f g r s xs
  -- every round trip, what its first call would write being longer than the limit or not
  pub refusals : (f g : Format) → f ≢ g → (r : ℕ) → r ≤ highest_mode → (s : List ℕ) (xs : List Frame) → Octets s → ValidRecording f s xs
      → TripRefusals c f g r s xs
  -- "any two accepted IF1 recordings that are unequal, but only in the Class A bits and CRC of a single frame", here the frame x behind
  -- the frames front
  pub apart : (a b : List ℕ) (front : List Frame) (x : Frame) (rest ys : List Frame) → Octets a → Octets b
      → ValidRecording if1 a (front ++ (x ∷ rest)) → ValidRecording if1 b ys → a ≢ b → OnlyGuardedDiffer (length (layouts if1 front)) x.type a b
      → Apart (guarded_at (length (layouts if1 front)) x.type a) (guarded_at (length (layouts if1 front)) x.type b)

-- demand 3 rests on demand 2: a converter that meets demand 2 meets demand 3
abbrev pub RestsOnDemand2 : Type 0
RestsOnDemand2 = (c : Converter) → ConvertsFrames c → Demand3 c
