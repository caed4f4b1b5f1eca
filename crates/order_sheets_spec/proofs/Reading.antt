-- The call shows a table exactly where the text is its sheet and it is a permutation that fits the row: each of these is one part of the chain.
-- Assumes nothing.
use mathlib.Core.Path.{◌≡◌, subst}
use mathlib.Core.List.{List}
use Prim.Native.Nat.{ℕ, ◌≤◌}
use borrow.Author.Tests.{leb-true, le-leb}
use Rattle.definitions.specs.Outcome.{ok}
use Rattle.definitions.specs.Frames.{core_bits}
use Rattle.definitions.specs.Claims.{Permutes}
use Rattle.definitions.proofs.Outcome.{same_value, and_then-ok, unless-ok}
use Rattle.definitions.proofs.Counting.{complete-permutes, permutes-complete}
use Rattle.order_sheets_spec.specs.Sheets.{sheet_call}
use Rattle.order_sheets_spec.specs.Claims.{IsSheet, ReadsSheets}
use Rattle.order_sheets_spec.proofs.Form.{form-sound, form-complete}

module _ (text : List ℕ) (room m : ℕ) (table : List ℕ) where
  shown : sheet_call text room ≡ ok (m, table) → IsSheet text m table × Permutes (core_bits m) table × (core_bits m ≤ room)
  unfolding sheet_call
  shown e =
      let f = and_then-ok _ _ (m, table) e in
      let c = unless-ok _ _ _ (m, table) f.2 in
      let r = unless-ok _ _ _ (m, table) c.1 in
      let i = form-sound text f.0.0 f.0.1 f.1 in
      subst (λ (y : ℕ × List ℕ). IsSheet text y.0 y.1 × Permutes (core_bits y.0) y.1 × (core_bits y.0 ≤ room)) (same_value f.0 (m, table) r.1)
      (i, complete-permutes (core_bits f.0.0) f.0.1 i.whole c.0, leb-true _ _ r.0)

  shows : IsSheet text m table → Permutes (core_bits m) table → core_bits m ≤ room → sheet_call text room ≡ ok (m, table)
  unfolding sheet_call
  shows i p l = rw (form-complete text m table i, permutes-complete (core_bits m) table p, le-leb (core_bits m) room l)

pub reads_sheets : ReadsSheets sheet_call
reads_sheets = record { exactly = λ text room m table. (shown text room m table, (λ x. shows text room m table x.0 x.1 x.2)) }
