-- A mode's table is a permutation, and of the size that the mode's row and core ask. Assumes nothing.
use mathlib.Core.Path.{◌≡◌, sym, ap, ◌∙◌, subst}
use mathlib.Core.Bool.{true}
use mathlib.Core.List.{List}
use Prim.Native.Nat.{ℕ, ◌*◌, ◌≤◌}
use native.Mathlib.Omega.{arith}
use lib.ListN.{length, take}
use Rattle.bits.specs.Bits.{bits, pack, octets_for}
use Rattle.definitions.specs.Reading.{overwritten}
use Rattle.definitions.specs.Order.{zero_or_one, row_bits, row_octets, ordered, unordered, table_for}
use Rattle.definitions.specs.Claims.{Permutes}
use Rattle.definitions.proofs.Order.{table-permutes}
use Rattle.order_tables.specs.Ready.{RowReady, CoreReady, with_core, with_row}

pub core_asked : (m : ℕ) (sheet row core : List ℕ) → RowReady m sheet row core
    → Permutes (length row) (table_for m sheet) × (zero_or_one row ≡ true) × (octets_for (length (table_for m sheet)) ≤ length core)
core_asked m sheet row core r =
    let p = table-permutes m sheet r.has_table in
    (subst (λ k. Permutes k (table_for m sheet)) (sym r.size) p, r.values, subst (λ k. octets_for k ≤ length core) (sym p.whole) r.room)

pub row_asked : (m : ℕ) (sheet core row : List ℕ) → CoreReady m sheet core row
    → Permutes (length (table_for m sheet)) (table_for m sheet) × (length (table_for m sheet) ≤ 8 * length core) × (length (table_for m sheet) ≤ length row)
row_asked m sheet core row r =
    let p = table-permutes m sheet r.has_table in
    (subst (λ k. Permutes k (table_for m sheet)) (sym p.whole) p, omega (arith, p.whole, r.size), omega (arith, p.whole, r.room))

-- what is put in order by the mode's table is the mode's core
pub core-put : (m : ℕ) (sheet table : List ℕ) → table_for m sheet ≡ table → (row core₀ core : List ℕ)
    → core ≡ overwritten (pack (ordered table (row_bits row))) core₀ → core ≡ with_core m sheet row core₀
core-put m sheet table t row core₀ core e = e ∙ ap (λ t. overwritten (pack (ordered t (row_bits row))) core₀) (sym t)

pub row_put : (m : ℕ) (sheet core row : List ℕ) → CoreReady m sheet core row
    → overwritten (row_octets (unordered (table_for m sheet) (take (length (table_for m sheet)) (bits core)))) row ≡ with_row m sheet core row
row_put m sheet core row r =
    ap (λ k. overwritten (row_octets (unordered (table_for m sheet) (take k (bits core)))) row) (table-permutes m sheet r.has_table).whole
