-- Demand 2 for one frame: what is to be true of a reader, of the layouts, of the builder and of the codec order.
use Rattle.std.specs.Prelude.{◌≡◌, Bool, true, false, ◌↔◌, List, ◌++◌, ℕ, ◌+◌, ◌≤◌, ◌<◌, length, get_or, take}
use Rattle.bits.specs.Bits.{bits, Octets, pack}
use Rattle.definitions.specs.Outcome.{Outcome, ok}
use Rattle.definitions.specs.Frames.{Format, highest_mode, Frame, known, core_bits, core_octets, fields_good, layout}
use Rattle.definitions.specs.Reading.{format_numbered, core_fill_clear, frame_of}
use Rattle.definitions.specs.Order.{highest_tabled_mode, order_table, codec_bit, zero_or_one, row_bits, table_for, times}

-- a frame that the format can hold
pub record Valid (f : Format) (x : Frame) : Type 0 where
  pub type_known : known x.type ≡ true
  pub quality_bit : x.quality ≤ 1
  pub core_length : length x.core ≡ core_bits x.type
  pub fields_are_good : fields_good f x ≡ true

-- the first n octets of s are the layout of the valid frame x
pub record Begins (f : Format) (s : List ℕ) (x : Frame) (n : ℕ) : Type 0 where
  pub valid : Valid f x
  pub size : length (layout f x) ≡ n
  pub laid : take n s ≡ layout f x

abbrev pub Reader : Type 0
Reader = Format → List ℕ → Outcome (Frame × ℕ)

-- demand 2, of a reader: it shows the frame x of n octets exactly where they are x's layout
pub record ReadsFrames (read : Reader) : Type 0 where
  pub exactly : (f : Format) (s : List ℕ) (x : Frame) (n : ℕ) → Octets s → (read f s ≡ ok (x, n)) ↔ Begins f s x n

-- the same of a call for one frame: nothing stands behind it
pub record ReadsOneFrame (read : Reader) : Type 0 where
  pub exactly : (f : Format) (s : List ℕ) (x : Frame) (n : ℕ) → Octets s → (read f s ≡ ok (x, n)) ↔ (Valid f x × (s ≡ layout f x) × (length s ≡ n))

abbrev pub Layout : Type 0
Layout = Format → Frame → List ℕ

abbrev pub FrameCall : Type 0
FrameCall = (format : ℕ) → List ℕ → (room : ℕ) → Outcome (Frame × ℕ)

-- the same of a call that reads one frame by the format's number: it shows x, and how many octets of the core's buffer it needs, exactly where the
-- octets are x's layout in that format and the buffer has room for them
pub record ReadsCalls (read : FrameCall) : Type 0 where
  pub exactly : (format : ℕ) (s : List ℕ) (room : ℕ) (x : Frame) (k : ℕ) → Octets s
      → (read format s room ≡ ok (x, k))
      ↔ ((f : Format) × (format_numbered format ≡ ok f) × Valid f x × (s ≡ layout f x) × (core_octets x.type ≤ room) × (core_octets x.type ≡ k))

-- a layout with octets behind it is no other frame's layout with octets behind it
pub record LayoutsDiffer (lay : Layout) : Type 0 where
  pub prefix_free : (f : Format) (x y : Frame) (a b : List ℕ) → Valid f x → Valid f y → Octets a → Octets b
      → lay f x ++ a ≡ lay f y ++ b → (x ≡ y) × (a ≡ b)
  pub injective : (f : Format) (x y : Frame) → Valid f x → Valid f y → lay f x ≡ lay f y → x ≡ y

abbrev pub Builder : Type 0
Builder = Format → ℕ → ℕ → ℕ → ℕ → List ℕ → ℕ → Outcome (List ℕ)

-- demand 2, of a builder: it writes the layouts of valid frames, each of them and nothing else
pub record BuildsFrames (build : Builder) : Type 0 where
  pub sound : (f : Format) (t q i r : ℕ) (c : List ℕ) (room : ℕ) (w : List ℕ) → Octets c → build f t q i r c room ≡ ok w
      → Valid f (frame_of t q i r c) × (w ≡ layout f (frame_of t q i r c)) × (c ≡ pack (frame_of t q i r c).core)
  pub complete : (f : Format) (x : Frame) (room : ℕ) → Valid f x → length (layout f x) ≤ room
      → build f x.type x.quality x.indication x.request (pack x.core) room ≡ ok (layout f x)

-- ---- codec order

-- "Each table holds each of 0 to K-1 exactly one time", and nothing else
pub record Permutes (k : ℕ) (table : List ℕ) : Type 0 where
  pub whole : length table ≡ k
  pub below : (j : ℕ) → j < k → get_or table j 0 < k
  pub once : (n : ℕ) → n < k → times n table ≡ 1

pub record TablesPermute : Type 0 where
  pub each : (m : ℕ) → m ≤ highest_tabled_mode → Permutes (core_bits m) (order_table m)

-- "24 when some number below K is missing, however large the one in its place": the test of K numbers is the rule of the tables
pub record TestsTables (complete : (k : ℕ) → List ℕ → Bool) : Type 0 where
  pub exactly : (k : ℕ) (table : List ℕ) → length table ≡ k → (complete k table ≡ true) ↔ Permutes k table

abbrev pub OrderCall : Type 0
OrderCall = (mode : ℕ) → (sheet octets : List ℕ) → (room : ℕ) → Outcome (List ℕ)

-- the mode has a table: its own, or the sheet, where this is a permutation
abbrev pub HasTable : (mode : ℕ) → (sheet : List ℕ) → Type 0
HasTable m sheet = (m ≤ highest_mode) × (highest_tabled_mode < m → Permutes (core_bits m) sheet)

-- demand 2, of the call from row to core: "d(j) = s(table_m(j)+1)", in exactly the core's octets, whose filling bits are 0. With `OrdersBack` the
-- other call is fixed too
pub record OrdersByTables (to_core : OrderCall) : Type 0 where
  pub bit : (m : ℕ) (sheet row core : List ℕ) (room j : ℕ) → to_core m sheet row room ≡ ok core → j < core_bits m
      → get_or (bits core) j false ≡ codec_bit (row_bits row) (get_or (table_for m sheet) j 0 + 1)
  pub packed : (m : ℕ) (sheet row core : List ℕ) (room : ℕ) → to_core m sheet row room ≡ ok core
      → Octets core × (length core ≡ core_octets m) × (core_fill_clear m core ≡ true)

-- demand 2, of the two calls, "for all nine modes together": with room for what each writes neither is refused, and the second gives back what the
-- first was handed
pub record OrdersBack (to_core to_row : OrderCall) : Type 0 where
  pub row_back : (m : ℕ) (sheet row : List ℕ) (room room' : ℕ) → HasTable m sheet → length row ≡ core_bits m → zero_or_one row ≡ true
      → core_octets m ≤ room → core_bits m ≤ room' → (core : List ℕ) × (to_core m sheet row room ≡ ok core) × (to_row m sheet core room' ≡ ok row)
  pub core_back : (m : ℕ) (sheet core : List ℕ) (room room' : ℕ) → HasTable m sheet → Octets core → length core ≡ core_octets m
      → core_fill_clear m core ≡ true → core_bits m ≤ room → core_octets m ≤ room'
      → (row : List ℕ) × (to_row m sheet core room ≡ ok row) × (to_core m sheet row room' ≡ ok core)

-- "Modes 0 to 4 leave it unread"
pub record LeavesUnread (order : OrderCall) : Type 0 where
  pub unread : (m : ℕ) (sheet sheet' octets : List ℕ) (room : ℕ) → m ≤ highest_tabled_mode → order m sheet octets room ≡ order m sheet' octets room
