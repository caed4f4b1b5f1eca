-- When a call that reads or builds one frame is refused, and by which number (document 01, "Refused because of the input" and "Order"). The
-- conditions are stated over bits, places and fields, and not by the tests of `read_with` and `build_check`.
use Rattle.std.specs.Prelude.{◌≡◌, ◌↔◌, ◌⊎◌, Bool, true, false, List, [], ◌∷◌, ℕ, ◌+◌, ◌*◌, ◌≤◌, ◌<◌, length, get_or, take, drop}
use Rattle.bits.specs.Bits.{num, bits, Octets}
use Rattle.parity.specs.Crc.{crc}
use Rattle.definitions.specs.Outcome.{refused, ok}
use Rattle.definitions.specs.Frames.{Format, if1, if2, storage, highest_mode, sid_type, highest_type, sid_mode_at, crc_bits, Frame, core_bits, class_a, octets, core_octets, carries_modes, header_bits, type_in, core_in, frame_in}
use Rattle.definitions.specs.Reading.{format_numbered, frame_of}
use Rattle.definitions.specs.Order.{highest_tabled_mode, times}
use Rattle.definitions.specs.Claims.{Reader, ReadsFrames, ReadsOneFrame, FrameCall, ReadsCalls, Builder, BuildsFrames, OrderCall, OrdersByTables, OrdersBack}

-- ---- the order

-- document 01's "Order", for the calls of one frame. Its two places in front of 10, 6 in Up and 9 for a recording about to be written, concern
-- no call here. "A call tests what concerns it": the other numbers have no condition. Document 02, h: "24 in 12's place", and there "after 23"
abbrev pub refusal_order : List ℕ
refusal_order = 11 ∷ 14 ∷ 15 ∷ 9 ∷ 8 ∷ 1 ∷ 2 ∷ 3 ∷ 4 ∷ 5 ∷ 6 ∷ 7 ∷ 12 ∷ 23 ∷ 24 ∷ 13 ∷ 16 ∷ 17 ∷ 10 ∷ []

-- n is the first number of the list whose condition holds
pub data FirstOf (fault : ℕ → Type 0) : List ℕ → ℕ → Type 0 where
  here : {n : ℕ} {ns : List ℕ} → fault n → FirstOf fault (n ∷ ns) n
  later : {m n : ℕ} {ns : List ℕ} → (fault m → ⊥) → FirstOf fault ns n → FirstOf fault (m ∷ ns) n

-- ---- what is wrong with a frame

-- "Types 10 to 13 are reserved"
abbrev pub Reserved : ℕ → Type 0
Reserved t = (10 ≤ t) × (t ≤ 13)

-- the places of the spare bits, counted from the frame's first bit. IF1: type, quality, "three spare bits". Stored: "one 0 bit, type, quality,
-- two 0 bits"
abbrev pub SparePlace : Format → ℕ → Type 0
SparePlace if1 i = (5 ≤ i) × (i ≤ 7)
SparePlace if2 i = ⊥
SparePlace storage i = (i ≡ 0) ⊎ ((6 ≤ i) × (i ≤ 7))

-- the places of the filling bits of a frame of type t: from the core's end to the end of the frame's octets
abbrev pub FillingPlace : Format → ℕ → ℕ → Type 0
FillingPlace f t i = (header_bits f t + core_bits t ≤ i) × (i < 8 * octets f t)

abbrev pub IsOne : List Bool → ℕ → Type 0
IsOne bs i = get_or bs i false ≡ true

-- "6 a frame's indication or request above 8, a nonzero nibble or field that must be 0, or a comfort mode above 8". A SID frame's indication must be
-- 0, and its mode is d(36..39). Both fields must be 0 where the frame does not carry them, which is anywhere but in IF1's types 0 to 9: they are
-- read as 0 there, but a call that builds a frame is handed numbers
pub data FieldFault (f : Format) (x : Frame) : Type 0 where
  indication_above : highest_mode < x.indication → FieldFault f x
  request_above : highest_mode < x.request → FieldFault f x
  sid_indication : x.type ≡ sid_type → 0 < x.indication → FieldFault f x
  sid_mode : x.type ≡ sid_type → highest_mode < num 4 (drop sid_mode_at x.core) → FieldFault f x
  indication_not_carried : carries_modes f x.type ≡ false → 0 < x.indication → FieldFault f x
  request_not_carried : carries_modes f x.type ≡ false → 0 < x.request → FieldFault f x

-- the type in the octets
abbrev pub type_of : Format → List ℕ → ℕ
type_of f s = type_in f (bits s)

-- the CRC of the Class A bits in the octets
abbrev pub crc_of : Format → List ℕ → List Bool
crc_of f s = crc (take (class_a (type_of f s)) (core_in f (type_of f s) (bits s)))

-- the octets at whose start a frame is to be read: "1 no octets for one frame; 2 type 10 to 13; 3 fewer octets than the type's; 4 octets after a
-- single frame; 5 spare or filling bit 1; 6 ..; 7 CRC", which is octet 2 of IF1's types 0 to 9. In a recording (`single` is false) more frames
-- may follow, and 4 has no condition
pub data FrameFault (single : Bool) (f : Format) (s : List ℕ) : ℕ → Type 0 where
  no_octets : length s ≡ 0 → FrameFault single f s 1
  reserved_type : Reserved (type_of f s) → FrameFault single f s 2
  too_few : length s < octets f (type_of f s) → FrameFault single f s 3
  octets_after : single ≡ true → octets f (type_of f s) < length s → FrameFault single f s 4
  spare_bit : (i : ℕ) → SparePlace f i → IsOne (bits s) i → FrameFault single f s 5
  filling_bit : (i : ℕ) → FillingPlace f (type_of f s) i → IsOne (bits s) i → FrameFault single f s 5
  field : FieldFault f (frame_in f (bits s)) → FrameFault single f s 6
  another_crc : f ≡ if1 → type_of f s ≤ sid_type → (get_or s 2 0 ≡ num crc_bits (crc_of f s) → ⊥) → FrameFault single f s 7

-- demand 2, of a reader's refusals: "Each number comes on its stated condition and on no other"
pub record RefusesFrames (single : Bool) (read : Reader) : Type 0 where
  pub exactly : (f : Format) (s : List ℕ) (n : ℕ) → Octets s → (read f s ≡ refused n) ↔ FirstOf (FrameFault single f s) refusal_order n

-- ---- a call that reads one frame, by the format's number, its core into a buffer of room octets

-- "11 any other argument out of its range": formats are 1, 2 and 3; then the single frame; "10 lent output shorter than needed"
pub data CallFault (format : ℕ) (s : List ℕ) (room : ℕ) : ℕ → Type 0 where
  no_format : (format ≡ 0) ⊎ (3 < format) → CallFault format s room 11
  in_frame : (f : Format) {n : ℕ} → format_numbered format ≡ ok f → FrameFault true f s n → CallFault format s room n
  too_little_room : (f : Format) → format_numbered format ≡ ok f → room < core_octets (type_of f s) → CallFault format s room 10

pub record RefusesCalls (read : FrameCall) : Type 0 where
  pub exactly : (format : ℕ) (s : List ℕ) (room n : ℕ) → Octets s → (read format s room ≡ refused n) ↔ FirstOf (CallFault format s room) refusal_order n

-- ---- a call that builds a frame into room octets

-- 11 for the type, the quality, and for the core's length: "the core comes packed in exactly its octets, another length is 11 (not judged for types
-- 10 to 13), a filling bit 1 is 5". Then 2 and 6 as in reading, and 10
pub data BuildFault (f : Format) (t q i r : ℕ) (c : List ℕ) (room : ℕ) : ℕ → Type 0 where
  type_above : highest_type < t → BuildFault f t q i r c room 11
  quality_above : 1 < q → BuildFault f t q i r c room 11
  another_length : (Reserved t → ⊥) → (length c ≡ core_octets t → ⊥) → BuildFault f t q i r c room 11
  reserved_type : Reserved t → BuildFault f t q i r c room 2
  filling_bit : (j : ℕ) → core_bits t ≤ j → j < 8 * length c → IsOne (bits c) j → BuildFault f t q i r c room 5
  field : FieldFault f (frame_of t q i r c) → BuildFault f t q i r c room 6
  too_little_room : room < octets f t → BuildFault f t q i r c room 10

pub record RefusesBuilds (build : Builder) : Type 0 where
  pub exactly : (f : Format) (t q i r : ℕ) (c : List ℕ) (room n : ℕ) → Octets c
      → (build f t q i r c room ≡ refused n) ↔ FirstOf (BuildFault f t q i r c room) refusal_order n

-- ---- the calls of codec order

-- what is wrong with a sheet, in the modes 5 to 8: 11 "for a length other than K or 0"; 12 "only where no sheet is lent"; 24
pub data SheetFault (mode : ℕ) (sheet : List ℕ) : ℕ → Type 0 where
  another_length : (length sheet ≡ core_bits mode → ⊥) → (length sheet ≡ 0 → ⊥) → SheetFault mode sheet 11
  not_lent : length sheet ≡ 0 → SheetFault mode sheet 12
  missing : (n : ℕ) → n < core_bits mode → times n sheet ≡ 0 → SheetFault mode sheet 24

-- from the row to the core: 11 a mode above 8, another length of the row, or a value above 1; the sheet; 10
pub data ToCoreFault (mode : ℕ) (sheet row : List ℕ) (room : ℕ) : ℕ → Type 0 where
  mode_above : highest_mode < mode → ToCoreFault mode sheet row room 11
  another_length : (length row ≡ core_bits mode → ⊥) → ToCoreFault mode sheet row room 11
  value_above : (i : ℕ) → 1 < get_or row i 0 → ToCoreFault mode sheet row room 11
  in_sheet : {n : ℕ} → highest_tabled_mode < mode → SheetFault mode sheet n → ToCoreFault mode sheet row room n
  too_little_room : room < core_octets mode → ToCoreFault mode sheet row room 10

-- from the core to the row: 11 a mode above 8 or another length of the core; 5 a filling bit 1, as in a call that builds a frame; the sheet; 10
pub data ToRowFault (mode : ℕ) (sheet core : List ℕ) (room : ℕ) : ℕ → Type 0 where
  mode_above : highest_mode < mode → ToRowFault mode sheet core room 11
  another_length : (length core ≡ core_octets mode → ⊥) → ToRowFault mode sheet core room 11
  filling_bit : (j : ℕ) → core_bits mode ≤ j → j < 8 * length core → IsOne (bits core) j → ToRowFault mode sheet core room 5
  in_sheet : {n : ℕ} → highest_tabled_mode < mode → SheetFault mode sheet n → ToRowFault mode sheet core room n
  too_little_room : room < core_bits mode → ToRowFault mode sheet core room 10

pub record RefusesOrders (to_core to_row : OrderCall) : Type 0 where
  pub to_core_exactly : (mode : ℕ) (sheet row : List ℕ) (room n : ℕ)
      → (to_core mode sheet row room ≡ refused n) ↔ FirstOf (ToCoreFault mode sheet row room) refusal_order n
  pub to_row_exactly : (mode : ℕ) (sheet core : List ℕ) (room n : ℕ) → Octets core
      → (to_row mode sheet core room ≡ refused n) ↔ FirstOf (ToRowFault mode sheet core room) refusal_order n

-- ---- nothing is left free

-- any two readers, calls, builders or pairs of calls of codec order that meet their claims give the same answers
pub record AnswersFixed : Type 0 where
  pub readers : (read read' : Reader) → ReadsFrames read → RefusesFrames false read → ReadsFrames read' → RefusesFrames false read'
      → (f : Format) (s : List ℕ) → Octets s → read f s ≡ read' f s
  pub single_readers : (read read' : Reader) → ReadsOneFrame read → RefusesFrames true read → ReadsOneFrame read' → RefusesFrames true read'
      → (f : Format) (s : List ℕ) → Octets s → read f s ≡ read' f s
  pub calls : (read read' : FrameCall) → ReadsCalls read → RefusesCalls read → ReadsCalls read' → RefusesCalls read'
      → (format : ℕ) (s : List ℕ) (room : ℕ) → Octets s → read format s room ≡ read' format s room
  pub builders : (build build' : Builder) → BuildsFrames build → RefusesBuilds build → BuildsFrames build' → RefusesBuilds build'
      → (f : Format) (t q i r : ℕ) (c : List ℕ) (room : ℕ) → Octets c → build f t q i r c room ≡ build' f t q i r c room
  pub orders : (to_core to_row to_core' to_row' : OrderCall)
      → OrdersByTables to_core → OrdersBack to_core to_row → RefusesOrders to_core to_row
      → OrdersByTables to_core' → OrdersBack to_core' to_row' → RefusesOrders to_core' to_row'
      → (mode : ℕ) (sheet row core : List ℕ) (room : ℕ) → Octets core
      → (to_core mode sheet row room ≡ to_core' mode sheet row room) × (to_row mode sheet core room ≡ to_row' mode sheet core room)
