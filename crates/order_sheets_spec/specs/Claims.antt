-- What is claimed of sheets (document 02, h): of any program that reads them, of ordering by a sheet that was read, and of the texts themselves.
use Rattle.std.specs.Prelude.{◌≡◌, true, ◌↔◌, List, ℕ, ◌≤◌, ◌<◌, length}
use Rattle.bits.specs.Bits.{Octets}
use Rattle.definitions.specs.Outcome.{Outcome, refused, ok}
use Rattle.definitions.specs.Frames.{highest_mode, core_bits, core_octets}
use Rattle.definitions.specs.Reading.{core_fill_clear}
use Rattle.definitions.specs.Order.{highest_tabled_mode, zero_or_one, times}
use Rattle.definitions.specs.Claims.{Permutes, OrderCall, OrdersBack}
use Rattle.definitions.specs.Refusals.{refusal_order, FirstOf}
use Rattle.order_sheets_spec.specs.Sheets.{sheet_text}

-- the text is the sheet of a table for mode m: the table has as many numbers as the mode has bits, and they may be any numbers
pub record IsSheet (text : List ℕ) (m : ℕ) (table : List ℕ) : Type 0 where
  pub mode_low : highest_tabled_mode < m
  pub mode_high : m ≤ highest_mode
  pub whole : length table ≡ core_bits m
  pub printed : text ≡ sheet_text m table

abbrev pub NoSheet : List ℕ → Type 0
NoSheet text = (m : ℕ) (table : List ℕ) → IsSheet text m table → ⊥

-- text and room for so many numbers; mode and table
abbrev pub SheetCall : Type 0
SheetCall = List ℕ → (room : ℕ) → Outcome (ℕ × List ℕ)

-- it answers mode and table exactly where the text is the sheet of a permutation of that mode, and there is room for it
pub record ReadsSheets (read : SheetCall) : Type 0 where
  pub exactly : (text : List ℕ) (room m : ℕ) (table : List ℕ)
      → (read text room ≡ ok (m, table)) ↔ (IsSheet text m table × Permutes (core_bits m) table × (core_bits m ≤ room))

-- "23 when the lines differ from this form, the mode is not 5 to 8 or the bits are not its K; 24 when some number below K is missing, however large
-- the one in its place"; then 10
pub data ReadFault (text : List ℕ) (room : ℕ) : ℕ → Type 0 where
  no_sheet : NoSheet text → ReadFault text room 23
  missing : (m : ℕ) (table : List ℕ) (n : ℕ) → IsSheet text m table → n < core_bits m → times n table ≡ 0 → ReadFault text room 24
  too_little_room : (m : ℕ) (table : List ℕ) → IsSheet text m table → room < core_bits m → ReadFault text room 10

pub record RefusesSheets (read : SheetCall) : Type 0 where
  pub exactly : (text : List ℕ) (room n : ℕ) → (read text room ≡ refused n) ↔ FirstOf (ReadFault text room) refusal_order n

-- "Ordering by an accepted sheet and undoing it restores the codec's row, shown for all nine modes together by one argument": the argument is
-- `OrdersBack`, of any calls, and the sheet is any that was read
pub record OrdersByRead : Type 0 where
  pub row_back : (read : SheetCall) (to_core to_row : OrderCall) → ReadsSheets read → OrdersBack to_core to_row
      → (text : List ℕ) (n m : ℕ) (table row : List ℕ) (room room' : ℕ) → read text n ≡ ok (m, table) → length row ≡ core_bits m
      → zero_or_one row ≡ true → core_octets m ≤ room → core_bits m ≤ room'
      → (core : List ℕ) × (to_core m table row room ≡ ok core) × (to_row m table core room' ≡ ok row)
  pub core_back : (read : SheetCall) (to_core to_row : OrderCall) → ReadsSheets read → OrdersBack to_core to_row
      → (text : List ℕ) (n m : ℕ) (table core : List ℕ) (room room' : ℕ) → read text n ≡ ok (m, table) → Octets core
      → length core ≡ core_octets m → core_fill_clear m core ≡ true → core_bits m ≤ room → core_octets m ≤ room'
      → (row : List ℕ) × (to_row m table core room ≡ ok row) × (to_core m table row room' ≡ ok core)

-- no text is the sheet of two tables
pub record SheetsDiffer : Type 0 where
  pub one_table : (text : List ℕ) (m m' : ℕ) (table table' : List ℕ) → IsSheet text m table → IsSheet text m' table' → (m ≡ m') × (table ≡ table')

-- any two programs that meet the claims give the same answers
pub record SheetsAgree : Type 0 where
  pub same : (read read' : SheetCall) → ReadsSheets read → RefusesSheets read → ReadsSheets read' → RefusesSheets read'
      → (text : List ℕ) (room : ℕ) → read text room ≡ read' text room
