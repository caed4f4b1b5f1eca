-- A sheet that was read is a permutation of its mode, and so it is a table by which the ordering calls undo one another. Assumes nothing.
use mathlib.Core.Path.{◌≡◌}
use mathlib.Core.List.{List}
use Prim.Native.Nat.{ℕ}
use Rattle.definitions.specs.Outcome.{ok}
use Rattle.definitions.specs.Claims.{HasTable}
use Rattle.order_sheets_spec.specs.Claims.{SheetCall, ReadsSheets, OrdersByRead}

read-table : (read : SheetCall) → ReadsSheets read → (text : List ℕ) (n m : ℕ) (table : List ℕ) → read text n ≡ ok (m, table) → HasTable m table
read-table read r text n m table e = let x = (r.exactly text n m table).0 e in (x.0.mode_high, λ l. x.1)

pub orders_by_read : OrdersByRead
orders_by_read = record {
  row_back = λ read to_core to_row r o text n m table row room room' e.
      o.row_back m table row room room' (read-table read r text n m table e);
  core_back = λ read to_core to_row r o text n m table core room room' e.
      o.core_back m table core room room' (read-table read r text n m table e);
}
