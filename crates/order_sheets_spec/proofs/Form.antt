-- A text has the form of a sheet exactly where it is one: each part is read where the printed text has it, and what is printed is read back, with
-- whatever stands behind it. Assumes nothing.
use mathlib.Core.Path.{◌≡◌, refl, sym, ap, ap₂, ◌∙◌, subst}
use mathlib.Core.List.{List, [], ◌∷◌, ◌++◌, append-nil, append_assoc}
use Prim.Native.Nat.{ℕ, zero, suc, ◌≤◌, ◌<◌}
use native.Mathlib.Omega.{arith}
use lib.Dec.{eqb}
use lib.ListN.{length}
use borrow.Author.Tests.{leb-true, ltb-true, eqb-true, lt-ltb, le-leb, eq-eqb}
use Rattle.std.proofs.lemmas.List.{nil_from_length}
use Rattle.bits.proofs.Tests.{and_left, and_right}
use Rattle.definitions.specs.Outcome.{ok, unless, and_then}
use Rattle.definitions.specs.Decimal.{decimal}
use Rattle.definitions.specs.Frames.{core_bits}
use Rattle.definitions.proofs.Outcome.{same_value, and_then-ok, unless-ok}
use Rattle.order_sheets_spec.specs.Sheets.{«mode=», «bits=», «d», equals, line_feed, field_text, lines_text, sheet_text, field, lines, head, sheet_form}
use Rattle.order_sheets_spec.specs.Claims.{IsSheet, SheetsDiffer}
use Rattle.order_sheets_spec.proofs.Numbers.{line_feed_ends}
use Rattle.order_sheets_spec.proofs.Fields.{field-sound, field-complete, line-sound, line-complete}

-- ---- lines

pub lines-sound : (j k : ℕ) (s table t : List ℕ) → lines j k s ≡ ok (table, t) → (length table ≡ k) × (s ≡ lines_text j table t)
unfolding lines
lines-sound j zero s table t e =
    let q = same_value ([], s) (table, t) e in
    (ap (λ (y : List ℕ × List ℕ). length y.0) (sym q), ap (λ (y : List ℕ × List ℕ). lines_text j y.0 y.1) q)
lines-sound j (suc k) s table t e =
    let f = and_then-ok _ _ (table, t) e in
    let g = and_then-ok _ _ (table, t) f.2 in
    let q = same_value (f.0.0 ∷ g.0.0, g.0.1) (table, t) g.2 in
    let r = lines-sound (suc j) k f.0.1 g.0.0 g.0.1 g.1 in (
      ap (λ (y : List ℕ × List ℕ). length y.0) (sym q) ∙ ap suc r.0,
      line-sound j s f.0.0 f.0.1 f.1
          ∙ ap (λ s. field_text «d» j equals (field_text [] f.0.0 line_feed s)) r.1
          ∙ ap (λ (y : List ℕ × List ℕ). lines_text j y.0 y.1) q,
    )

lines-complete : (j k : ℕ) (table t : List ℕ) → length table ≡ k → lines j k (lines_text j table t) ≡ ok (table, t)
unfolding lines
lines-complete j zero [] t w = refl
lines-complete j zero (n ∷ table) t w = absurd (omega arith)
lines-complete j (suc k) [] t w = absurd (omega arith)
lines-complete j (suc k) (n ∷ table) t w =
    ap (λ o. and_then o (λ x. and_then (lines (suc j) k x.1) (λ t. ok (x.0 ∷ t.0, t.1)))) (line-complete j n (lines_text (suc j) table t))
    ∙ ap (λ o. and_then o (λ t. ok (n ∷ t.0, t.1))) (lines-complete (suc j) k table t (omega arith))

-- ---- head

head-sound : (s : List ℕ) (m : ℕ) (t : List ℕ) → head s ≡ ok (m, t)
    → (4 < m) × (m ≤ 8) × (s ≡ field_text «mode=» m line_feed (field_text «bits=» (core_bits m) line_feed t))
unfolding head
head-sound s m t e =
    let f = and_then-ok (field «mode=» line_feed s) _ (m, t) e in
    let n = f.0.0 in
    let u = unless-ok 23 _ _ (m, t) f.2 in
    let g = and_then-ok _ _ (m, t) u.1 in
    let v = unless-ok 23 _ _ (m, t) g.2 in
    subst (λ (y : ℕ × List ℕ). (4 < y.0) × (y.0 ≤ 8) × (s ≡ field_text «mode=» y.0 line_feed (field_text «bits=» (core_bits y.0) line_feed y.1)))
    (same_value (n, g.0.1) (m, t) v.1) (
      ltb-true 4 n (and_left _ _ u.0),
      leb-true n 8 (and_right _ _ u.0),
      field-sound «mode=» line_feed s n f.0.1 f.1
          ∙ ap (λ s. field_text «mode=» n line_feed s)
          (field-sound «bits=» line_feed f.0.1 g.0.0 g.0.1 g.1 ∙ ap (λ k. field_text «bits=» k line_feed g.0.1) (eqb-true g.0.0 (core_bits n) v.0)),
    )

head-complete : (m : ℕ) (t : List ℕ) → 4 < m → m ≤ 8
    → head (field_text «mode=» m line_feed (field_text «bits=» (core_bits m) line_feed t)) ≡ ok (m, t)
unfolding head
head-complete m t l u =
    rw (
      field-complete «mode=» line_feed line_feed_ends m (field_text «bits=» (core_bits m) line_feed t),
      lt-ltb 4 m l,
      le-leb m 8 u,
      field-complete «bits=» line_feed line_feed_ends (core_bits m) t,
      eq-eqb (core_bits m) (core_bits m) refl,
    )

-- ---- sheet_form

pub form-sound : (s : List ℕ) (m : ℕ) (table : List ℕ) → sheet_form s ≡ ok (m, table) → IsSheet s m table
unfolding sheet_form sheet_text
form-sound s m table e =
    let f = and_then-ok (head s) _ (m, table) e in
    let n = f.0.0 in
    let g = and_then-ok _ _ (m, table) f.2 in
    let w = unless-ok 23 _ _ (m, table) g.2 in
    let h = head-sound s n f.0.1 f.1 in
    let r = lines-sound 0 (core_bits n) f.0.1 g.0.0 g.0.1 g.1 in
    subst (λ (y : ℕ × List ℕ). IsSheet s y.0 y.1) (same_value (n, g.0.0) (m, table) w.1)
    record {
      mode_low = h.0;
      mode_high = h.1;
      whole = r.0;
      printed =
          h.2
          ∙ ap₂ (λ k s. field_text «mode=» n line_feed (field_text «bits=» k line_feed s)) (sym r.0)
          (r.1 ∙ ap (lines_text 0 g.0.0) (nil_from_length g.0.1 (eqb-true (length g.0.1) 0 w.0)));
    }

field_text-append : (word : List ℕ) (n end : ℕ) (s t : List ℕ) → field_text word n end s ++ t ≡ field_text word n end (s ++ t)
field_text-append word n end s t = append_assoc word (decimal n ++ (end ∷ s)) t ∙ ap (λ x. word ++ x) (append_assoc (decimal n) (end ∷ s) t)

lines_text-append : (j : ℕ) (table s t : List ℕ) → lines_text j table s ++ t ≡ lines_text j table (s ++ t)
lines_text-append j [] s t = refl
lines_text-append j (n ∷ table) s t =
    field_text-append «d» j equals _ t
    ∙ ap (λ s. field_text «d» j equals s)
    (field_text-append [] n line_feed _ t ∙ ap (λ s. field_text [] n line_feed s) (lines_text-append (suc j) table s t))

sheet_text-append : (m : ℕ) (table t : List ℕ)
    → sheet_text m table ++ t ≡ field_text «mode=» m line_feed (field_text «bits=» (length table) line_feed (lines_text 0 table t))
unfolding sheet_text
sheet_text-append m table t =
    field_text-append «mode=» m line_feed _ t
    ∙ ap (λ s. field_text «mode=» m line_feed s)
    (field_text-append «bits=» (length table) line_feed _ t ∙ ap (λ s. field_text «bits=» (length table) line_feed s) (lines_text-append 0 table [] t))

-- a sheet with t behind it
form-append : (text : List ℕ) (m : ℕ) (table t : List ℕ) → IsSheet text m table
    → sheet_form (text ++ t) ≡ unless 23 (eqb (length t) 0) (ok (m, table))
unfolding sheet_form
form-append text m table t i =
    ap sheet_form
    (ap (λ s. s ++ t) i.printed
    ∙ sheet_text-append m table t
    ∙ ap (λ k. field_text «mode=» m line_feed (field_text «bits=» k line_feed (lines_text 0 table t))) i.whole)
    ∙ rw (head-complete m (lines_text 0 table t) i.mode_low i.mode_high, lines-complete 0 (core_bits m) table t i.whole)

pub form-complete : (text : List ℕ) (m : ℕ) (table : List ℕ) → IsSheet text m table → sheet_form text ≡ ok (m, table)
form-complete text m table i = ap sheet_form (sym (append-nil text)) ∙ form-append text m table [] i

-- ---- no text is the sheet of two tables

pub one_sheet : (text : List ℕ) (m m' : ℕ) (table table' : List ℕ) → IsSheet text m table → IsSheet text m' table'
    → ◌≡◌ {A = ℕ × List ℕ} (m, table) (m', table')
one_sheet text m m' table table' i i' = same_value (m, table) (m', table') (sym (form-complete text m table i) ∙ form-complete text m' table' i')

-- and none is the beginning of another
pub nothing_behind : (text t : List ℕ) (m m' : ℕ) (table table' : List ℕ) → IsSheet text m table → IsSheet (text ++ t) m' table' → length t ≡ 0
nothing_behind text t m m' table table' i i' =
    let e = sym (form-append text m table t i) ∙ form-complete (text ++ t) m' table' i' in
    eqb-true _ _ (unless-ok 23 _ _ (m', table') e).0

pub sheets_differ : SheetsDiffer
sheets_differ = record {
  one_table = λ text m m' table table' i i'.
      let q = one_sheet text m m' table table' i i' in (ap (λ (y : ℕ × List ℕ). y.0) q, ap (λ (y : ℕ × List ℕ). y.1) q);
}
