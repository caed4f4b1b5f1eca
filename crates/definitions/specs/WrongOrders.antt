-- Wrong codec orders, which the claims refute.
use Rattle.std.specs.Prelude.{◌≡◌, Bool, true, false, ◌&&◌, List, ℕ, ◌≤◌, ◌<◌, length, get_or, eqb, leb}
use Rattle.bits.specs.Bits.{Octets, pack}
use Rattle.definitions.specs.Outcome.{refused, ok, unless}
use Rattle.definitions.specs.Frames.{highest_mode, core_bits, core_octets}
use Rattle.definitions.specs.Reading.{buffer_core, core_fill_clear}
use Rattle.definitions.specs.Order.{highest_tabled_mode, zero_or_one, row_bits, row_octets, times, sheet_sized, sheet_lent, sheet_complete}
use Rattle.definitions.specs.Claims.{Permutes, TestsTables, HasTable, OrderCall, OrdersBack, OrdersByTables, LeavesUnread}
use Rattle.definitions.specs.Refusals.{RefusesOrders}

-- the call from row to core, with its refusals, but the core is the row as it is
unfoldable pub order_kept : OrderCall
order_kept mode sheet row room =
    unless 11 (leb mode highest_mode && (sheet_sized mode sheet && (eqb (length row) (core_bits mode) && zero_or_one row)))
    (unless 12 (sheet_lent mode sheet)
    (unless 24 (sheet_complete mode sheet)
    (unless 10 (leb (core_octets mode) room)
    (ok (pack (row_bits row))))))

-- and back: the row is the core as it is
unfoldable pub row_kept : OrderCall
row_kept mode sheet core room =
    unless 11 (leb mode highest_mode && (sheet_sized mode sheet && eqb (length core) (core_octets mode)))
    (unless 5 (core_fill_clear mode core)
    (unless 12 (sheet_lent mode sheet)
    (unless 24 (sheet_complete mode sheet)
    (unless 10 (leb (core_bits mode) room)
    (ok (row_octets (buffer_core core mode)))))))

-- a table that has a number twice; a test that does not notice it, and one that refuses a permutation; a call that declines every row by one table
-- of any mode, one that gives the same core for all rows, or the same row for all cores, one that keeps the row's order, though it and the call back
-- undo one another; one that says "too short" for a buffer that fits; one to which a sheet matters in modes 0 to 4; one that says "no order" in these
-- modes, or where a sheet is lent; and, in modes 5 to 8, one that orders by a sheet of another length, or by one in which a number is missing
pub record WrongOrders : Type 0 where
  pub entry_twice : (k : ℕ) (table : List ℕ) (i j : ℕ) → i < j → j < k → get_or table i 0 ≡ get_or table j 0 → Permutes k table → ⊥
  pub twice_unnoticed : (complete : (k : ℕ) → List ℕ → Bool) (table : List ℕ) (i j : ℕ) → i < j → j < length table → get_or table i 0 ≡ get_or table j 0
      → complete (length table) table ≡ true → TestsTables complete → ⊥
  pub permutation_refused : (complete : (k : ℕ) → List ℕ → Bool) (k : ℕ) (table : List ℕ) → Permutes k table → complete k table ≡ false
      → TestsTables complete → ⊥
  pub declines : (to_core to_row : OrderCall) (m : ℕ) (sheet : List ℕ) → HasTable m sheet
      → ((row : List ℕ) (room : ℕ) (w : List ℕ) → to_core m sheet row room ≡ ok w → ⊥) → OrdersBack to_core to_row → ⊥
  pub one_core : (to_core to_row : OrderCall) → ((m : ℕ) (sheet row row' : List ℕ) (room : ℕ) → to_core m sheet row room ≡ to_core m sheet row' room)
      → OrdersBack to_core to_row → ⊥
  pub one_row : (to_core to_row : OrderCall) → ((m : ℕ) (sheet core core' : List ℕ) (room : ℕ) → to_row m sheet core room ≡ to_row m sheet core' room)
      → OrdersBack to_core to_row → ⊥
  pub kept_back : OrdersBack order_kept row_kept
  pub keeps_order : OrdersByTables order_kept → ⊥
  pub core_fits : (to_core to_row : OrderCall) (mode : ℕ) (sheet row : List ℕ) (room : ℕ) → core_octets mode ≤ room
      → to_core mode sheet row room ≡ refused 10 → RefusesOrders to_core to_row → ⊥
  pub row_fits : (to_core to_row : OrderCall) (mode : ℕ) (sheet core : List ℕ) (room : ℕ) → Octets core → core_bits mode ≤ room
      → to_row mode sheet core room ≡ refused 10 → RefusesOrders to_core to_row → ⊥
  pub reads_sheet : (order : OrderCall) (mode : ℕ) (sheet sheet' octets : List ℕ) (room : ℕ) → mode ≤ highest_tabled_mode
      → (order mode sheet octets room ≡ order mode sheet' octets room → ⊥) → LeavesUnread order → ⊥
  pub no_order : (to_core to_row : OrderCall) (mode : ℕ) (sheet row : List ℕ) (room : ℕ) → ((highest_tabled_mode < mode) × (length sheet ≡ 0) → ⊥)
      → to_core mode sheet row room ≡ refused 12 → RefusesOrders to_core to_row → ⊥
  pub other_length : (to_core to_row : OrderCall) (mode : ℕ) (sheet row w : List ℕ) (room : ℕ) → highest_tabled_mode < mode
      → (length sheet ≡ core_bits mode → ⊥) → to_core mode sheet row room ≡ ok w → RefusesOrders to_core to_row → ⊥
  pub incomplete : (to_core to_row : OrderCall) (mode : ℕ) (sheet core w : List ℕ) (room n : ℕ) → Octets core → highest_tabled_mode < mode → n < core_bits mode
      → times n sheet ≡ 0 → to_row mode sheet core room ≡ ok w → RefusesOrders to_core to_row → ⊥
