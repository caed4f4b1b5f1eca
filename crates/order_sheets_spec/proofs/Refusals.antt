-- A text that is no sheet is refused by 23, as its form is. Behind the form of a sheet the call is a chain of two tests, each of which fails exactly
-- on its number's condition. Assumes nothing.
use mathlib.Core.Path.{◌≡◌, refl, sym, ap, ◌∙◌, subst}
use mathlib.Core.Bool.{Bool, true, false, ◌||◌}
use mathlib.Core.List.{List, [], ◌∷◌}
use mathlib.Core.Logic.{◌↔◌}
use Prim.Native.Nat.{ℕ, ◌<◌}
use native.Mathlib.Omega.{arith}
use lib.Dec.{eqb, leb}
use borrow.Author.Tests.{leb-false, lt-leb}
use Rattle.std.proofs.lemmas.Bool.{false_from_ne_true}
use Rattle.definitions.specs.Outcome.{Outcome, refused, ok, unless, and_then}
use Rattle.definitions.specs.Frames.{core_bits}
use Rattle.definitions.specs.Order.{none_missing}
use Rattle.definitions.specs.Refusals.{refusal_order, FirstOf}
use Rattle.definitions.proofs.Outcome.{judge, Decides, Fails, also, no_refusal, refuses-first}
use Rattle.definitions.proofs.Counting.{missing-none, some-missing}
use Rattle.order_sheets_spec.specs.Sheets.{sheet_form, sheet_call}
use Rattle.order_sheets_spec.specs.Claims.{IsSheet, NoSheet, ReadFault, RefusesSheets}
use Rattle.order_sheets_spec.proofs.Form.{form-sound, form-complete, one_sheet}
use Rattle.order_sheets_spec.proofs.FormRefusals.{form-23}

module _ (text : List ℕ) (room : ℕ) where
  abbrev fault : ℕ → Type 0
  fault = ReadFault text room

  -- ---- no sheet

  module _ (none : NoSheet text) where
    only_form : (n : ℕ) → ReadFault text room n → eqb n 23 ≡ true
    only_form n (ReadFault.no_sheet x) = refl
    only_form n (ReadFault.missing m table i s l z) = absurd (none m table s)
    only_form n (ReadFault.too_little_room m table s l) = absurd (none m table s)

    form-first : (n : ℕ) → (◌≡◌ {A = Outcome (ℕ × List ℕ)} (refused 23) (refused n)) ↔ FirstOf fault refusal_order n
    form-first n =
        refuses-first fault (λ n. eqb n 23) only_form refusal_order ((23, false) ∷ []) (0, []) n refl
        (also fault _ [] ((λ h. ReadFault.no_sheet none), (λ x. refl)) Decides.none)

  -- ---- a sheet

  module _ (m : ℕ) (table : List ℕ) (i : IsSheet text m table) where
    missing-fails : Fails fault (24, none_missing (core_bits m) table)
    missing-fails = (fails, λ x. false_from_ne_true _ (passes x))
      where
        fails : none_missing (core_bits m) table ≡ false → ReadFault text room 24
        fails h = let x = some-missing (core_bits m) table h in ReadFault.missing m table x.0 i x.1 x.2

        passes : ReadFault text room 24 → none_missing (core_bits m) table ≡ true → ⊥
        passes (ReadFault.missing m' table' n i' l z) h =
            let q = one_sheet text m m' table table' i i' in
            let g : none_missing (core_bits m') table' ≡ true = subst (λ (y : ℕ × List ℕ). none_missing (core_bits y.0) y.1 ≡ true) q h in
            omega (arith, missing-none (core_bits m') table' g n l)

    room-fails : Fails fault (10, leb (core_bits m) room)
    room-fails = ((λ h. ReadFault.too_little_room m table i (leb-false _ _ h)), back)
      where
        back : ReadFault text room 10 → leb (core_bits m) room ≡ false
        back (ReadFault.too_little_room m' table' i' l) =
            let q = one_sheet text m m' table table' i i' in
            lt-leb _ _ (subst (λ (y : ℕ × List ℕ). room < core_bits y.0) (sym q) l)

    abbrev of_sheet : ℕ → Bool
    of_sheet n = eqb n 24 || eqb n 10

    only_sheet : (n : ℕ) → ReadFault text room n → of_sheet n ≡ true
    only_sheet n (ReadFault.no_sheet x) = absurd (x m table i)
    only_sheet n (ReadFault.missing m' table' k s l z) = refl
    only_sheet n (ReadFault.too_little_room m' table' s l) = refl

    abbrev tests : List (ℕ × Bool)
    tests = (24, none_missing (core_bits m) table) ∷ (10, leb (core_bits m) room) ∷ []

    sheet-first : (n : ℕ) → (judge {A = ℕ × List ℕ} tests (m, table) ≡ refused n) ↔ FirstOf fault refusal_order n
    sheet-first n =
        refuses-first fault of_sheet only_sheet refusal_order tests (m, table) n refl
        (also fault _ _ missing-fails (also fault _ _ room-fails Decides.none))

  -- ---- the call

  call-first : (o : Outcome (ℕ × List ℕ)) → sheet_form text ≡ o → (n : ℕ)
      → (and_then o (λ y. unless 24 (none_missing (core_bits y.0) y.1) (unless 10 (leb (core_bits y.0) room) (ok y))) ≡ refused n)
      ↔ FirstOf fault refusal_order n
  call-first (refused k) e n =
      let r = form-first (λ m table i. no_refusal (m, table) k (sym (form-complete text m table i) ∙ e)) n in
      let by_23 = ap refused (form-23 text k e) in
      ((λ h. r.0 (sym by_23 ∙ h)), (λ x. by_23 ∙ r.1 x))
  call-first (ok y) e n = sheet-first y.0 y.1 (form-sound text y.0 y.1 e) n

pub refuses_sheets : RefusesSheets sheet_call
unfolding sheet_call
refuses_sheets = record { exactly = λ text room n. call-first text room (sheet_form text) refl n }
