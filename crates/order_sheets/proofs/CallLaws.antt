-- The call, from what its parts have found: the first two lines, the tests of the others, and the room. Assumes nothing.
use mathlib.Core.Path.{◌≡◌, refl, sym, ap, ◌∙◌, subst}
use mathlib.Core.Bool.{Bool, true, false}
use mathlib.Core.List.{List, ◌++◌}
use Prim.Native.Nat.{ℕ, ◌≤◌, ◌<◌}
use native.Mathlib.Omega.{arith}
use lib.Dec.{eqb, leb}
use lib.ListN.{length, take, drop}
use lib.Seq.{length-take-le}
use borrow.Author.Tests.{le-leb, lt-leb}
use denote.Ref.{Bor}
use Rattle.std.specs.Prelude.{Option, Some, None, IfSome, Ok, Err, ⊤}
use Rattle.definitions.specs.Outcome.{Outcome, refused, ok, unless, and_then}
use Rattle.definitions.specs.Frames.{core_bits}
use Rattle.definitions.specs.Order.{none_missing}
use Rattle.definitions.proofs.Outcome.{same_number, no_refusal}
use Rattle.frame.specs.declared.Refusal.{Refusal}
use Rattle.frame.specs.Answers.{number_of}
use Rattle.order_sheets_spec.specs.Sheets.{lines, head, sheet_form, sheet_call}
use Rattle.order_sheets_spec.proofs.FormRefusals.{head-23}
use Rattle.order_sheets.specs.Answers.{shown, front, table_in, read_as, numbers_after, IntoNumbers}
use Rattle.order_sheets.proofs.FieldLaws.{none-shown, some-shown}
use Rattle.order_sheets.proofs.TestLaws.{tests_of}
use Rattle.order_sheets.proofs.WriteLaws.{found}

-- ---- what the first two lines show

pub head-found : (text : List ℕ) (r : Option (ℕ × Bor (List ℕ))) (m : ℕ) (t : Bor (List ℕ)) → r ≡ Some (m, t) → front r ≡ shown (head text)
    → IfSome r (λ r. (4 < r.0) × (r.0 ≤ 8)) → (Some (m, t.now) ≡ shown (head text)) × (m ≤ 8)
head-found text r m t e h b = (sym (ap front e) ∙ h, (subst (λ (r : Option (ℕ × Bor (List ℕ))). IfSome r (λ r. (4 < r.0) × (r.0 ≤ 8))) e b).1)

-- ---- sheet_call

module _ (text : List ℕ) (room : ℕ) where
  -- the room's test, behind the table's
  abbrev with_room : ℕ → List ℕ → Outcome (ℕ × List ℕ)
  with_room m table = unless 10 (leb (core_bits m) room) (ok (m, table))

  -- the tests of a table that has the form
  abbrev of_form : ℕ × List ℕ → Outcome (ℕ × List ℕ)
  of_form y = unless 24 (none_missing (core_bits y.0) y.1) (unless 10 (leb (core_bits y.0) room) (ok y))

  abbrev no_text_behind : ℕ → List ℕ × List ℕ → Outcome (ℕ × List ℕ)
  no_text_behind m t = unless 23 (eqb (length t.1) 0) (ok (m, t.0))

  pub no-head : None ≡ shown (head text) → sheet_call text room ≡ refused 23
  unfolding sheet_call sheet_form
  no-head e = let f = none-shown _ e in rw f.1 (ap refused (head-23 text f.0 f.1))

  module _ (m : ℕ) (t : List ℕ) (e : Some (m, t) ≡ shown (head text)) (high : m ≤ 8) where
    -- the table, and room for it
    from-table : sheet_call text room ≡ and_then (table_in (core_bits m) t) (with_room m)
    unfolding sheet_call sheet_form
    from-table =
        let f = some-shown _ m t e in
        let q : f.0 ≡ m = omega (arith, f.2) in
        rw (f.1, q) (go (lines 0 (core_bits m) t))
      where
        go : (o : Outcome (List ℕ × List ℕ))
            → and_then (and_then o (no_text_behind m)) of_form
            ≡ and_then (and_then o (λ t. unless 23 (eqb (length t.1) 0) (unless 24 (none_missing (core_bits m) t.0) (ok t.0)))) (with_room m)
        go (refused n) = refl
        go (ok u) = each (eqb (length u.1) 0) (none_missing (core_bits m) u.0) refl
          where
            each : (a b : Bool) → none_missing (core_bits m) u.0 ≡ b
                → and_then (unless 23 a (ok (m, u.0))) of_form ≡ and_then (unless 23 a (unless 24 b (ok u.0))) (with_room m)
            each false b h = refl
            each true true h = rw h
            each true false h = rw h

    pub table-refused : (n : ℕ) → refused n ≡ tests_of (core_bits m) t → sheet_call text room ≡ refused n
    table-refused n h = from-table ∙ go (table_in (core_bits m) t) h
      where
        go : (o : Outcome (List ℕ)) → refused n ≡ and_then {B = ⊤} o (λ t. ok (tt {0})) → and_then o (with_room m) ≡ refused n
        go (refused k) h = ap refused (same_number k n (sym h))
        go (ok table) h = no_refusal (tt {0}) n (sym h)

    -- the tests found a table
    table-found : ok (tt {0}) ≡ tests_of (core_bits m) t → (table : List ℕ) × (table_in (core_bits m) t ≡ ok table)
    table-found h = go (table_in (core_bits m) t) refl h
      where
        go : (o : Outcome (List ℕ)) → table_in (core_bits m) t ≡ o → ok (tt {0}) ≡ and_then {B = ⊤} o (λ t. ok (tt {0})) → (table : List ℕ) × (table_in (core_bits m) t ≡ ok table)
        go (refused k) e h = no_refusal (tt {0}) k h
        go (ok table) e h = (table, e)

    pub row-short : room < core_bits m → ok (tt {0}) ≡ tests_of (core_bits m) t → sheet_call text room ≡ refused 10
    row-short h e = let f = table-found e in from-table ∙ rw (f.1, lt-leb (core_bits m) room h)

    row-fits : core_bits m ≤ room → (table : List ℕ) → table_in (core_bits m) t ≡ ok table → sheet_call text room ≡ ok (m, table)
    row-fits h table e = from-table ∙ rw (e, le-leb (core_bits m) room h)

-- ---- the answer and the output buffer

pub leaves : (o : Outcome (ℕ × List ℕ)) (d : List ℕ) (e : Refusal) → o ≡ refused (number_of e) → IntoNumbers o d d (Err e)
leaves o d e h = record { answer = sym (ap read_as h); buffer = sym (ap (λ o. numbers_after o d) h) }

fills : (o : Outcome (ℕ × List ℕ)) (d₀ table : List ℕ) (m k : ℕ) → o ≡ ok (m, table) → k ≡ length table
    → IntoNumbers o d₀ (table ++ drop k d₀) (Ok record { mode = m; numbers = k })
fills o d₀ table m k h n = record {
  answer = ap (λ k. ok (m, k)) n ∙ sym (ap read_as h);
  buffer = ap (λ k. table ++ drop k d₀) n ∙ sym (ap (λ o. numbers_after o d₀) h);
}

-- the lines that were tested are written to the front of the row
pub writes : (text d new : List ℕ) (m k : ℕ) (t : List ℕ) → Some (m, t) ≡ shown (head text) → m ≤ 8 → k ≡ core_bits m → k ≤ length d
    → ok (tt {0}) ≡ tests_of (core_bits m) t → ((table : List ℕ) → table_in (length (take k d)) t ≡ ok table → new ≡ table)
    → IntoNumbers (sheet_call text (length d)) d (new ++ drop k d) (Ok record { mode = m; numbers = k })
writes text d new m k t h high e l tests written =
    let f = table-found text (length d) m t h high tests in
    let n : length (take k d) ≡ core_bits m = length-take-le k d l ∙ e in
    let w : new ≡ f.0 = written f.0 (ap (λ n. table_in n t) n ∙ f.1) in
    fills (sheet_call text (length d)) d new m k (row-fits text (length d) m t h high (omega (arith, e)) new (f.1 ∙ ap ok (sym w)))
    (e ∙ sym (ap length w ∙ (found (core_bits m) t f.0 f.1).1.whole))
