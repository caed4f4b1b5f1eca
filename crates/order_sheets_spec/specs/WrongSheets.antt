-- Readers of sheets that are wrong, which the claims refute. Nothing of the papers is defined here.
use Rattle.std.specs.Prelude.{◌≡◌, true, false, List, ◌∷◌, ◌++◌, ℕ, ◌≤◌, ◌<◌, length, get_or, take}
use Rattle.definitions.specs.Outcome.{refused, ok}
use Rattle.definitions.specs.Frames.{core_bits}
use Rattle.definitions.specs.Order.{times}
use Rattle.order_sheets_spec.specs.Sheets.{is_digit}
use Rattle.order_sheets_spec.specs.Claims.{IsSheet, NoSheet, SheetCall, ReadsSheets, RefusesSheets}

-- readers that always decline, that accept a leading zero in any number, a sheet without its last line feed or with octets behind it, a table with a
-- number twice, another mode or table than is written, as one whose numbers lost their upper digits, or a table that is longer than the row; and
-- readers that answer 23 where the text is a sheet, as one with a number above 65535, 24 where it is none, 10 where a number is missing, or
-- "too short" for a row that fits
pub record WrongSheets : Type 0 where
  pub declines : (read : SheetCall) → ((text : List ℕ) (room m : ℕ) (table : List ℕ) → read text room ≡ ok (m, table) → ⊥) → ReadsSheets read → ⊥
  pub leading_zero : (read : SheetCall) (front s : List ℕ) (b c room m : ℕ) (table : List ℕ) → is_digit b ≡ false → is_digit c ≡ true
      → read (front ++ (b ∷ 0x30 ∷ c ∷ s)) room ≡ ok (m, table) → ReadsSheets read → ⊥
  pub ends_early : (read : SheetCall) (text : List ℕ) (mode : ℕ) (numbers : List ℕ) (n room m : ℕ) (table : List ℕ) → IsSheet text mode numbers
      → n < length text → read (take n text) room ≡ ok (m, table) → ReadsSheets read → ⊥
  pub goes_on : (read : SheetCall) (text : List ℕ) (mode : ℕ) (numbers s : List ℕ) (room m : ℕ) (table : List ℕ) → IsSheet text mode numbers
      → (length s ≡ 0 → ⊥) → read (text ++ s) room ≡ ok (m, table) → ReadsSheets read → ⊥
  pub number_twice : (read : SheetCall) (text : List ℕ) (room m : ℕ) (table : List ℕ) (i j : ℕ) → i < j → j < core_bits m
      → get_or table i 0 ≡ get_or table j 0 → read text room ≡ ok (m, table) → ReadsSheets read → ⊥
  pub other_table : (read : SheetCall) (text : List ℕ) (room m mode : ℕ) (table written : List ℕ) → IsSheet text mode written
      → ((m ≡ mode) × (table ≡ written) → ⊥) → read text room ≡ ok (m, table) → ReadsSheets read → ⊥
  pub short_row : (read : SheetCall) (text : List ℕ) (room m : ℕ) (table : List ℕ) → room < core_bits m → read text room ≡ ok (m, table)
      → ReadsSheets read → ⊥
  pub form_strict : (read : SheetCall) (text : List ℕ) (room m : ℕ) (table : List ℕ) → IsSheet text m table → read text room ≡ refused 23
      → RefusesSheets read → ⊥
  pub form_late : (read : SheetCall) (text : List ℕ) (room : ℕ) → NoSheet text → read text room ≡ refused 24 → RefusesSheets read → ⊥
  pub room_first : (read : SheetCall) (text : List ℕ) (room m : ℕ) (table : List ℕ) (n : ℕ) → IsSheet text m table → n < core_bits m
      → times n table ≡ 0 → read text room ≡ refused 10 → RefusesSheets read → ⊥
  pub row_fits : (read : SheetCall) (text : List ℕ) (room m : ℕ) (table : List ℕ) → IsSheet text m table → core_bits m ≤ room
      → read text room ≡ refused 10 → RefusesSheets read → ⊥
