-- What a round trip by two conversions promises (document 01, "A trip in demand 3 is two conversions with one r").
use Rattle.std.specs.Prelude.{◌≡◌, ◌↔◌, ◌≢◌, List, ℕ, ◌≤◌, length, Result}
use Rattle.definitions.specs.Frames.{Format, highest_mode, Frame}
use Rattle.definitions.specs.Reading.{format_number, overwritten}
use Rattle.recordings.specs.Placed.{Placed, refused_at, done, and_then_at}
use Rattle.recordings.specs.Recordings.{limit}
use Rattle.recordings.specs.Conversion.{converted, convert_call, counted_at, buffer_after}
use Rattle.recordings.specs.ConversionClaims.{ValidRecording, WritingRefusal}
use Rattle.recordings.specs.Demand3.{Returns, BackRefusal}
use Rattle.recording_reader.specs.Answers.{counts_of}
use Rattle.recording_reader.specs.declared.Counts.{Counts}
use Rattle.recording_reader.specs.declared.RefusedAt.{RefusedAt}

-- "The second takes the octets so written, all of them and no others"
abbrev pub back_call : (from to request : ℕ) → List ℕ → (room₁ room₂ : ℕ) → Placed (ℕ × List ℕ)
back_call from to request s room₁ room₂ = and_then_at (convert_call from to request s room₁) (λ y. convert_call to from request y.1 room₂)

-- neither call was refused, and the second wrote `back`: the recording exactly where demand 3 says that it returns unchanged
pub record Returned (f : Format) (r : ℕ) (s : List ℕ) (xs : List Frame) (out₀ out : List ℕ) (a : Result Counts RefusedAt) : Type 0 where
  pub back : List ℕ
  pub answer : counts_of a ≡ done (length xs, length back)
  pub output : out ≡ overwritten back out₀
  pub unchanged : (back ≡ s) ↔ Returns f r xs

-- when it is refused: the first call, which would write `size` octets into `lent`, by 9 or 10; or the second, which would write `back` octets into
-- `room`, by 10
pub data TripRefusal (size lent back room : ℕ) : (n k at : ℕ) → Type 0 where
  first_call : {n k at : ℕ} → WritingRefusal size lent n k at → TripRefusal size lent back room n k at
  second_call : {n k at : ℕ} → size ≤ limit → size ≤ lent → BackRefusal back room n k at → TripRefusal size lent back room n k at

-- the buffers are mid₀ and out₀ before the call, and mid and out after it
pub record MakesTrip (from to request : ℕ) (s mid₀ mid out₀ out : List ℕ) (a : Result Counts RefusedAt) : Type 0 where
  -- for every input
  pub answer : counts_of a ≡ counted_at (back_call from to request s (length mid₀) (length out₀))
  pub middle : mid ≡ buffer_after (convert_call from to request s (length mid₀)) mid₀
  pub output : out ≡ buffer_after (back_call from to request s (length mid₀) (length out₀)) out₀
  -- demand 3, of a valid recording, where what the first would write is within the limit and each call is lent what it needs
  pub returns : (f g : Format) → f ≢ g → from ≡ format_number f → to ≡ format_number g → request ≤ highest_mode → (xs : List Frame) → ValidRecording f s xs
      → length (converted f g request xs) ≤ limit → length (converted f g request xs) ≤ length mid₀ → length s ≤ length out₀
      → Returned f request s xs out₀ out a
  -- a valid recording is refused on these conditions, "neither by anything else"
  pub refusals : (f g : Format) → f ≢ g → from ≡ format_number f → to ≡ format_number g → request ≤ highest_mode → (xs : List Frame) → ValidRecording f s xs
      → (n k at : ℕ) → (counts_of a ≡ refused_at n k at) ↔ TripRefusal (length (converted f g request xs)) (length mid₀) (length s) (length out₀) n k at
