-- The cases of document 01, "Bench cases", that are marked P, as a table in its order: what is asked, and what document 01 prints. The table
-- is data: the definitions that answer are in Bench, and none of them is named here.
use Rattle.std.specs.Prelude.{true, false, List, [], ◌∷◌, ◌++◌, ℕ, ◌-◌, replicate}
use Rattle.definitions.specs.Outcome.{Outcome, refused, ok}
use Rattle.definitions.specs.Frames.{Format, if1, if2, storage, Frame, sid_core}

-- ---- the frames

-- type 0, quality 1, all core bits 0 but d(n)
abbrev pub only_bit : ℕ → Frame
only_bit n = record { type = 0; quality = 1; indication = 0; request = 0; core = replicate n false ++ (true ∷ replicate (131 - n) false) }

-- type 9, quality 1, request 2, s all 0, STI 1, mode 3
abbrev pub sid_update_frame : Frame
sid_update_frame = record { type = 9; quality = 1; indication = 0; request = 2; core = sid_core (replicate 35 false) true 3 }

abbrev pub no_data_frame : Frame
no_data_frame = record { type = 15; quality = 1; indication = 0; request = 0; core = [] }

-- ---- what is asked

pub data Question : Type 0 where
  -- the CRC octet of a frame
  crc_octet : Frame → Question
  -- a frame's octets in a format: all of them, or the first n
  octets_of : Format → Frame → Question
  first_octets : (n : ℕ) → Format → Frame → Question
  -- of a mode, the n of the codec bits s(n) that make d(j) 1, each tried where it alone is 1
  sources : (mode j : ℕ) → Question
  -- a call that reads one frame, by the format's number
  one_frame : (format : ℕ) → List ℕ → Question

pub data Answer : Type 0 where
  numbers : List ℕ → Answer
  -- of a call: the frame, and how many octets its packed core takes
  call : Outcome (Frame × ℕ) → Answer

pub data Case : Type 0 where
  case : Question → Answer → Case

-- ---- the table

abbrev pub bench_table : List Case
bench_table =
    case (crc_octet (only_bit 53)) (numbers (0x71 ∷ []))
    ∷ case (crc_octet (only_bit 52)) (numbers (0xE2 ∷ []))
    ∷ case (crc_octet (only_bit 51)) (numbers (0xB5 ∷ []))
    ∷ case (crc_octet (only_bit 54)) (numbers (0x00 ∷ []))
    ∷ case (octets_of if1 sid_update_frame) (numbers (0x98 ∷ 0x02 ∷ 0xA5 ∷ 0x00 ∷ 0x00 ∷ 0x00 ∷ 0x00 ∷ 0x13 ∷ []))
    ∷ case (sources 3 3) (numbers (102 ∷ []))
    ∷ case (sources 3 284) (numbers (278 ∷ []))
    ∷ case (sources 4 316) (numbers (310 ∷ []))
    ∷ case (first_octets 1 if2 (only_bit 0)) (numbers (0x0C ∷ []))
    ∷ case (first_octets 2 storage (only_bit 0)) (numbers (0x04 ∷ 0x80 ∷ []))
    ∷ case (one_frame 3 (0x7C ∷ [])) (call (ok (no_data_frame, 0)))
    ∷ case (one_frame 3 (0x7D ∷ [])) (call (refused 5))
    ∷ case (one_frame 1 (0xA0 ∷ [])) (call (refused 2))
    ∷ []
