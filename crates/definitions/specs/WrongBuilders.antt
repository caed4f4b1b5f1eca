-- Wrong builders and layouts, which the claims refute.
use Rattle.std.specs.Prelude.{◌≡◌, Bool, not, List, [], ◌∷◌, ℕ, ◌≤◌}
use Rattle.bits.specs.Bits.{Octets}
use Rattle.definitions.specs.Outcome.{refused, ok}
use Rattle.definitions.specs.Frames.{Format, Frame, frame_by, octets, layout}
use Rattle.definitions.specs.Reading.{frame_of}
use Rattle.definitions.specs.Claims.{Layout, LayoutsDiffer, Builder, BuildsFrames}
use Rattle.definitions.specs.Refusals.{Reserved, RefusesBuilds}

-- a layout that does not show the quality
pub record WrongLayouts : Type 0 where
  pub without_quality : (lay : Layout)
      → ((f : Format) (t q q' i r : ℕ) (core : List Bool) → lay f (frame_by t q i r core) ≡ lay f (frame_by t q' i r core)) → LayoutsDiffer lay → ⊥

abbrev pub first_inverted : List Bool → List Bool
first_inverted [] = []
first_inverted (b ∷ bs) = not b ∷ bs

-- the frame with d(0) inverted
abbrev pub with_first_inverted : Frame → Frame
with_first_inverted x = frame_by x.type x.quality x.indication x.request (first_inverted x.core)

-- a builder that always declines, one that inverts d(0), one that writes a frame of a reserved type, and one that says "too short" for a buffer
-- that fits
pub record WrongBuilders : Type 0 where
  pub declines : (build : Builder) → ((f : Format) (t q i r : ℕ) (c : List ℕ) (room : ℕ) (w : List ℕ) → build f t q i r c room ≡ ok w → ⊥)
      → BuildsFrames build → ⊥
  pub inverts : (build : Builder)
      → ((f : Format) (t q i r : ℕ) (c : List ℕ) (room : ℕ) (w : List ℕ) → build f t q i r c room ≡ ok w
      → w ≡ layout f (with_first_inverted (frame_of t q i r c)))
      → BuildsFrames build → ⊥
  pub writes_reserved : (build : Builder) (f : Format) (t q i r : ℕ) (c : List ℕ) (room : ℕ) (w : List ℕ) → Octets c → Reserved t
      → build f t q i r c room ≡ ok w → BuildsFrames build → ⊥
  pub buffer_fits : (build : Builder) (f : Format) (t q i r : ℕ) (c : List ℕ) (room : ℕ) → Octets c → octets f t ≤ room
      → build f t q i r c room ≡ refused 10 → RefusesBuilds build → ⊥
