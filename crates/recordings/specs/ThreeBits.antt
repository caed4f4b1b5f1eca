-- Demand 3's "at least three of these bits differ" holds of no larger number: two valid IF1 recordings that differ in exactly three of the Class A
-- bits and the CRC of a good frame (document 01, "CRC"; the owner's third demand).
use Rattle.std.specs.Prelude.{◌≡◌, ◌≢◌, Bool, true, false, List, [], ◌∷◌, ◌++◌, ℕ, replicate}
use Rattle.bits.specs.Bits.{Octets}
use Rattle.parity.specs.Places.{differences, count_true}
use Rattle.parity.specs.Claims.{Apart}
use Rattle.definitions.specs.Frames.{if1, Frame, frame_by}
use Rattle.recordings.specs.ConversionClaims.{ValidRecording, Converter}
use Rattle.recordings.specs.Demand3.{OnlyGuardedDiffer, guarded_at, Demand3}

-- type 0, quality 1, indication and request 0
abbrev pub good_frame : List Bool → Frame
good_frame core = frame_by 0 1 0 0 core

-- what demand 3 asks of two recordings in `apart`, here of recordings of one such frame
pub record DifferInOneFrame (a b : List ℕ) (core core' : List Bool) : Type 0 where
  pub first_octets : Octets a
  pub second_octets : Octets b
  pub first_valid : ValidRecording if1 a (good_frame core ∷ [])
  pub second_valid : ValidRecording if1 b (good_frame core' ∷ [])
  pub unequal : a ≢ b
  pub only_guarded : OnlyGuardedDiffer 0 0 a b

-- Class A and CRC of the frame, in demand 3's order
abbrev pub guarded_bits_of : List ℕ → List Bool
guarded_bits_of s = guarded_at 0 0 s

-- ---- the two recordings

-- all core bits 0
abbrev pub none_set : List Bool
none_set = replicate 132 false

-- all core bits 0 but d(0), d(1) and d(25)
abbrev pub three_set : List Bool
three_set = true ∷ true ∷ (replicate 23 false ++ (true ∷ replicate 106 false))

-- their frames in IF1; the CRC, the third octet, is 0 in both
abbrev pub none_set_octets : List ℕ
none_set_octets = 0x08 ∷ 0x00 ∷ 0x00 ∷ replicate 17 0x00

abbrev pub three_set_octets : List ℕ
three_set_octets = 0x08 ∷ 0x00 ∷ 0x00 ∷ 0xC0 ∷ 0x00 ∷ 0x00 ∷ 0x40 ∷ replicate 13 0x00

-- ---- the claim

pub record ThreeIsSharp : Type 0 where
  pub differ : DifferInOneFrame none_set_octets three_set_octets none_set three_set
  pub three : count_true (differences (guarded_bits_of none_set_octets) (guarded_bits_of three_set_octets)) ≡ 3
  -- demand 3 speaks of all recordings that differ so
  pub apart : (c : Converter) → Demand3 c → (a b : List ℕ) (core core' : List Bool) → DifferInOneFrame a b core core'
      → Apart (guarded_bits_of a) (guarded_bits_of b)
