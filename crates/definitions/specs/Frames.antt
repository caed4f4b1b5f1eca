-- The frame and its three layouts (document 01, "The frame"; TS 26.201, 4 and annex A; RFC 4867, 5.3).
use Rattle.std.specs.Prelude.{Bool, true, false, not, ◌&&◌, ◌||◌, cond, List, [], ◌∷◌, ◌++◌, ℕ, ◌+◌, ◌-◌, ◌*◌, take, drop, eqb, leb}
use Rattle.bits.specs.Bits.{digits, num, clear, pack, octets_for}
use Rattle.parity.specs.Crc.{crc}

-- document 01's formats 1, 2 and 3; its stored frame is RFC 4867's storage format
pub data Format : Type 0 where
  if1 if2 storage : Format

-- quality is the FQI (0 bad, 1 good); indication and request are modes; the core is d(0) to d(K-1)
pub record Frame : Type 0 where
  pub type : ℕ
  pub quality : ℕ
  pub indication : ℕ
  pub request : ℕ
  pub core : List Bool

abbrev pub frame_by : (type quality indication request : ℕ) → List Bool → Frame
frame_by t q i r core = record { type = t; quality = q; indication = i; request = r; core = core }

-- ---- the papers' numbers

-- modes are 0 to 8, and so are the types of speech
abbrev pub highest_mode : ℕ
highest_mode = 8

-- a SID frame, document 01's comfort noise: the last type with a core
abbrev pub sid_type : ℕ
sid_type = 9

-- document 01's lost
abbrev pub speech_lost_type : ℕ
speech_lost_type = 14

-- document 01's empty
abbrev pub no_data_type : ℕ
no_data_type = 15

-- "type (0 to 15)"
abbrev pub highest_type : ℕ
highest_type = 15

-- in a SID frame's core: "d(35) is STI", "d(36..39) a mode"
abbrev pub sti_at : ℕ
sti_at = 35

abbrev pub sid_mode_at : ℕ
sid_mode_at = 36

-- CRC(7) to CRC(0)
abbrev pub crc_bits : ℕ
crc_bits = 8

-- in an IF1 frame of types 0 to 9: the bits at which indication, request, CRC and core begin
abbrev pub indication_at : ℕ
indication_at = 8

abbrev pub request_at : ℕ
request_at = 12

abbrev pub crc_at : ℕ
crc_at = 16

abbrev pub if1_core_at : ℕ
if1_core_at = 24

-- ---- the table of types

pub data Row : Type 0 where
  row : (type core class_a if1 if2 storage : ℕ) → Row

-- type, K, Class A, and the octets in IF1, IF2 and storage format; types 10 to 13 are reserved
abbrev pub type_table : List Row
type_table =
    row 0 132 54 20 18 18
    ∷ row 1 177 64 26 23 24
    ∷ row 2 253 72 35 33 33
    ∷ row 3 285 72 39 37 37
    ∷ row 4 317 72 43 41 41
    ∷ row 5 365 72 49 47 47
    ∷ row 6 397 72 53 51 51
    ∷ row 7 461 72 61 59 59
    ∷ row 8 477 72 63 61 61
    ∷ row 9 40 40 8 6 6
    ∷ row 14 0 0 1 1 1
    ∷ row 15 0 0 1 1 1
    ∷ []

abbrev pub listed : List Row → ℕ → Bool
listed [] t = false
listed (row u k a x y z ∷ rows) t = eqb t u || listed rows t

-- the row of type t; all 0 for a type that is not listed
abbrev pub row_in : List Row → ℕ → Row
row_in [] t = row t 0 0 0 0 0
row_in (row u k a x y z ∷ rows) t = cond (eqb t u) (row u k a x y z) (row_in rows t)

abbrev pub core_column : Row → ℕ
core_column (row t k a x y z) = k

abbrev pub class_column : Row → ℕ
class_column (row t k a x y z) = a

abbrev pub octet_column : Format → Row → ℕ
octet_column if1 (row t k a x y z) = x
octet_column if2 (row t k a x y z) = y
octet_column storage (row t k a x y z) = z

-- a type that the table lists: 0 to 9, 14 and 15
unfoldable pub known : ℕ → Bool
known t = listed type_table t

-- K
unfoldable pub core_bits : ℕ → ℕ
core_bits t = core_column (row_in type_table t)

-- Class A, "d(0) onward": so many bits; "Class B the rest"
unfoldable pub class_a : ℕ → ℕ
class_a t = class_column (row_in type_table t)

-- a frame's octets; 0 for a type that is not listed
unfoldable pub octets : Format → ℕ → ℕ
octets f t = octet_column f (row_in type_table t)

-- those of its packed core
abbrev pub core_octets : ℕ → ℕ
core_octets t = octets_for (core_bits t)

-- the core of a SID frame (TS 26.201, 4.2.3): "d(0..34) are s(1..35), d(35) is STI (0 first, 1 update), d(36..39) a mode, top bit first"
abbrev pub sid_core : (s : List Bool) → (sti : Bool) → (mode : ℕ) → List Bool
sid_core s sti mode = s ++ (sti ∷ digits 4 mode)

-- ---- from a frame to octets

-- IF1 carries indication, request and CRC for types 0 to 9; its types 14 and 15 are the first octet alone
abbrev pub carries_modes : Format → ℕ → Bool
carries_modes if1 t = leb t sid_type
carries_modes if2 t = false
carries_modes storage t = false

abbrev pub modes_and_crc : Bool → Frame → List Bool
modes_and_crc true x = digits 4 x.indication ++ (digits 4 x.request ++ crc (take (class_a x.type) x.core))
modes_and_crc false x = []

-- the bits in front of the core; spare bits are 0
unfoldable pub header : Format → Frame → List Bool
header if1 x = digits 4 x.type ++ (digits 1 x.quality ++ (digits 3 0 ++ modes_and_crc (carries_modes if1 x.type) x))
header if2 x = digits 4 x.type ++ digits 1 x.quality
header storage x = digits 1 0 ++ (digits 4 x.type ++ (digits 1 x.quality ++ digits 2 0))

-- filling bits are 0
unfoldable pub layout : Format → Frame → List ℕ
layout f x = pack (header f x ++ x.core)

-- ---- from octets to a frame

-- how many bits `header` has
abbrev pub header_bits : Format → ℕ → ℕ
header_bits if1 t = cond (leb t sid_type) if1_core_at 8
header_bits if2 t = 5
header_bits storage t = 8

-- spare bits in front of the type, and behind the quality
abbrev pub spare_before : Format → ℕ
spare_before if1 = 0
spare_before if2 = 0
spare_before storage = 1

abbrev pub spare_after : Format → ℕ
spare_after if1 = 3
spare_after if2 = 0
spare_after storage = 2

abbrev pub type_in : Format → List Bool → ℕ
type_in f bs = num 4 (drop (spare_before f) bs)

abbrev pub quality_in : Format → List Bool → ℕ
quality_in f bs = num 1 (drop (spare_before f + 4) bs)

abbrev pub core_in : Format → ℕ → List Bool → List Bool
core_in f t bs = take (core_bits t) (drop (header_bits f t) bs)

-- indication and request read as 0 where the frame does not carry them
unfoldable pub frame_in : Format → List Bool → Frame
frame_in f bs =
    let t : ℕ = type_in f bs in
    record {
      type = t;
      quality = quality_in f bs;
      indication = cond (carries_modes f t) (num 4 (drop indication_at bs)) 0;
      request = cond (carries_modes f t) (num 4 (drop request_at bs)) 0;
      core = core_in f t bs;
    }

-- the bits from the core's end to the octet's border
abbrev pub fill_bits : Format → ℕ → ℕ
fill_bits f t = 8 * octets f t - (header_bits f t + core_bits t)

abbrev pub fill_clear : Format → ℕ → List Bool → Bool
fill_clear f t bs = clear (fill_bits f t) (drop (header_bits f t + core_bits t) bs)

-- refusal 5: no spare or filling bit is 1
unfoldable pub spare_clear : Format → List Bool → Bool
spare_clear f bs = clear (spare_before f) bs && (clear (spare_after f) (drop (spare_before f + 5) bs) && fill_clear f (type_in f bs) bs)

-- a SID frame's indication is 0, and its mode, d(36..39), is 0 to 8
abbrev pub sid_good : ℕ → ℕ → ℕ → Bool
sid_good t indication mode = not (eqb t sid_type) || (eqb indication 0 && leb mode highest_mode)

-- a field that the frame does not carry is 0
abbrev pub uncarried_zero : Format → ℕ → ℕ → ℕ → Bool
uncarried_zero f t indication request = carries_modes f t || (eqb indication 0 && eqb request 0)

-- refusal 6: indication and request are modes, 0 to 8, and the two rules above hold
unfoldable pub fields_good : Format → Frame → Bool
fields_good f x =
    leb x.indication highest_mode
    && (leb x.request highest_mode
    && (sid_good x.type x.indication (num 4 (drop sid_mode_at x.core)) && uncarried_zero f x.type x.indication x.request))

-- refusal 7: the CRC matches, at either quality
unfoldable pub crc_good : Format → List Bool → Bool
crc_good f bs =
    let t : ℕ = type_in f bs in
    not (carries_modes f t) || eqb (num crc_bits (drop crc_at bs)) (num crc_bits (crc (take (class_a t) (core_in f t bs))))
