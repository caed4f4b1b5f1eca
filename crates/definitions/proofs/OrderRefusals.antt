-- The two calls of codec order are chains of tests, each of which fails exactly on its number's condition. Assumes nothing.
use mathlib.Core.Path.{◌≡◌, refl}
use mathlib.Core.Bool.{Bool, true, false, ◌&&◌, ◌||◌, true≢false}
use mathlib.Core.List.{List, [], ◌∷◌}
use mathlib.Core.Logic.{⊎_elim, ◌↔◌}
use Prim.Native.Nat.{ℕ, zero, suc, ◌-◌, ◌*◌, ◌≤◌, ◌<◌}
use native.Mathlib.Omega.{arith}
use lib.Dec.{eqb, leb}
use lib.ListN.{length, get_or}
use borrow.Author.Tests.{leb-true, leb-false, lt-leb, eqb-true, eqb-false, ne_eqb, both_ways}
use Rattle.bits.specs.Bits.{bits, pack}
use Rattle.std.proofs.lemmas.Bool.{and_cases, or_parts, or_from, false_from_ne_true}
use Rattle.bits.proofs.Tests.{and_left, and_right}
use Rattle.definitions.specs.Outcome.{refused}
use Rattle.definitions.specs.Frames.{core_bits, core_octets}
use Rattle.definitions.specs.Reading.{buffer_core, core_fill_clear}
use Rattle.definitions.specs.Order.{zero_or_one, row_bits, row_octets, ordered, unordered, table_for, none_missing, sheet_sized, sheet_lent, sheet_complete, to_core_call, to_row_call}
use Rattle.definitions.specs.Refusals.{refusal_order, FirstOf, SheetFault, ToCoreFault, ToRowFault, RefusesOrders}
use Rattle.definitions.proofs.Outcome.{Decides, Fails, also, refuses-first}
use Rattle.definitions.proofs.Refusals.{one-from, none-from}
use Rattle.definitions.proofs.Counting.{missing-none, some-missing}

above-one : (row : List ℕ) → zero_or_one row ≡ false → (i : ℕ) × (1 < get_or row i 0)
above-one [] h = absurd (true≢false h)
above-one (o ∷ row) h =
    ⊎_elim (λ e. (0, leb-false o 1 e)) (λ e. let r = above-one row e in (suc r.0, r.1)) (and_cases (leb o 1) (zero_or_one row) h)

at-most-one : (row : List ℕ) (i : ℕ) → zero_or_one row ≡ true → get_or row i 0 ≤ 1
at-most-one [] i h = omega arith
at-most-one (o ∷ row) zero h = leb-true o 1 (and_left _ _ h)
at-most-one (o ∷ row) (suc i) h = at-most-one row i (and_right (leb o 1) _ h)

-- ---- the sheet

module _ (mode : ℕ) (sheet : List ℕ) where
  -- a test of the sheet fails in the modes 5 to 8 alone
  sheet-fails : (n : ℕ) (t : Bool) → (t ≡ false) ↔ SheetFault mode sheet n → ((leb mode 4 || t) ≡ false) ↔ ((4 < mode) × SheetFault mode sheet n)
  sheet-fails n t f = (
    (λ h. let p = or_parts _ _ h in (leb-false mode 4 p.0, f.0 p.1)),
    (λ x. or_from _ _ (lt-leb mode 4 x.0) (f.1 x.1)),
  )

  sized-fails : (sheet_sized mode sheet ≡ false) ↔ ((4 < mode) × SheetFault mode sheet 11)
  sized-fails =
      sheet-fails 11 _ ((λ h. let p = or_parts _ _ h in SheetFault.another_length (eqb-false _ _ p.0) (eqb-false _ _ p.1)), back)
    where
      back : SheetFault mode sheet 11 → (eqb (length sheet) (core_bits mode) || eqb (length sheet) 0) ≡ false
      back (SheetFault.another_length k e) = or_from _ _ (ne_eqb _ _ k) (ne_eqb _ _ e)

  lent-fails : (sheet_lent mode sheet ≡ false) ↔ ((4 < mode) × SheetFault mode sheet 12)
  lent-fails = sheet-fails 12 _ ((λ h. let l = leb-false 1 (length sheet) h in SheetFault.not_lent (omega arith)), back)
    where
      back : SheetFault mode sheet 12 → leb 1 (length sheet) ≡ false
      back (SheetFault.not_lent e) = lt-leb 1 (length sheet) (omega arith)

  complete-fails : (sheet_complete mode sheet ≡ false) ↔ ((4 < mode) × SheetFault mode sheet 24)
  complete-fails =
      sheet-fails 24 _ ((λ h. let r = some-missing (core_bits mode) sheet h in SheetFault.missing r.0 r.1 r.2), (λ x. false_from_ne_true _ (passes x)))
    where
      passes : SheetFault mode sheet 24 → none_missing (core_bits mode) sheet ≡ true → ⊥
      passes (SheetFault.missing n l e) h = omega (arith, e, missing-none (core_bits mode) sheet h n l)

-- ---- from the row to the core

module _ (mode : ℕ) (sheet row : List ℕ) (room : ℕ) where
  abbrev row_good : Bool
  row_good = leb mode 8 && (sheet_sized mode sheet && (eqb (length row) (core_bits mode) && zero_or_one row))

  row-fails : Fails (ToCoreFault mode sheet row room) (11, row_good)
  row-fails = (fails, λ x. false_from_ne_true _ (passes x))
    where
      fails : row_good ≡ false → ToCoreFault mode sheet row room 11
      fails h =
          ⊎_elim (λ e. ToCoreFault.mode_above (leb-false mode 8 e))
          (λ h. ⊎_elim (λ e. let x = (sized-fails mode sheet).0 e in ToCoreFault.in_sheet x.0 x.1)
          (λ h. ⊎_elim (λ e. ToCoreFault.another_length (eqb-false _ _ e)) (λ e. let r = above-one row e in ToCoreFault.value_above r.0 r.1) (and_cases _ _ h))
          (and_cases _ _ h)) (and_cases _ _ h)

      passes : ToCoreFault mode sheet row room 11 → row_good ≡ true → ⊥
      passes (ToCoreFault.mode_above a) h = omega (arith, a, leb-true mode 8 (and_left _ _ h))
      passes (ToCoreFault.in_sheet l x) h = both_ways _ ((sized-fails mode sheet).1 (l, x)) (and_left _ _ (and_right (leb mode 8) _ h))
      passes (ToCoreFault.another_length l) h = l (eqb-true _ _ (and_left _ _ (and_right (sheet_sized mode sheet) _ (and_right (leb mode 8) _ h))))
      passes (ToCoreFault.value_above i a) h =
          let v = and_right (sheet_sized mode sheet) _ (and_right (leb mode 8) _ h) in
          omega (arith, a, at-most-one row i (and_right (eqb (length row) (core_bits mode)) _ v))

  to_core-lent : Fails (ToCoreFault mode sheet row room) (12, sheet_lent mode sheet)
  to_core-lent = ((λ h. let x = (lent-fails mode sheet).0 h in ToCoreFault.in_sheet x.0 x.1), back)
    where
      back : ToCoreFault mode sheet row room 12 → sheet_lent mode sheet ≡ false
      back (ToCoreFault.in_sheet l x) = (lent-fails mode sheet).1 (l, x)

  to_core-complete : Fails (ToCoreFault mode sheet row room) (24, sheet_complete mode sheet)
  to_core-complete = ((λ h. let x = (complete-fails mode sheet).0 h in ToCoreFault.in_sheet x.0 x.1), back)
    where
      back : ToCoreFault mode sheet row room 24 → sheet_complete mode sheet ≡ false
      back (ToCoreFault.in_sheet l x) = (complete-fails mode sheet).1 (l, x)

  pub to_core-room : Fails (ToCoreFault mode sheet row room) (10, leb (core_octets mode) room)
  to_core-room = ((λ h. ToCoreFault.too_little_room (leb-false _ _ h)), back)
    where
      back : ToCoreFault mode sheet row room 10 → leb (core_octets mode) room ≡ false
      back (ToCoreFault.in_sheet l x) = elim x [ ]
      back (ToCoreFault.too_little_room a) = lt-leb _ _ a

  abbrev of_to_core : ℕ → Bool
  of_to_core n = eqb n 11 || (eqb n 12 || (eqb n 24 || eqb n 10))

  to_core-only : (n : ℕ) → ToCoreFault mode sheet row room n → of_to_core n ≡ true
  to_core-only n (ToCoreFault.mode_above a) = refl
  to_core-only n (ToCoreFault.another_length l) = refl
  to_core-only n (ToCoreFault.value_above i a) = refl
  to_core-only n (ToCoreFault.in_sheet l (SheetFault.another_length k e)) = refl
  to_core-only n (ToCoreFault.in_sheet l (SheetFault.not_lent e)) = refl
  to_core-only n (ToCoreFault.in_sheet l (SheetFault.missing i m e)) = refl
  to_core-only n (ToCoreFault.too_little_room a) = refl

  to_core-first : (n : ℕ) → (to_core_call mode sheet row room ≡ refused n) ↔ FirstOf (ToCoreFault mode sheet row room) refusal_order n
  unfolding to_core_call
  to_core-first n =
      let fault = ToCoreFault mode sheet row room in
      refuses-first fault of_to_core to_core-only refusal_order
      ((11, row_good) ∷ (12, sheet_lent mode sheet) ∷ (24, sheet_complete mode sheet) ∷ (10, leb (core_octets mode) room) ∷ [])
      (pack (ordered (table_for mode sheet) (row_bits row))) n refl
      (also fault _ _ row-fails (also fault _ _ to_core-lent (also fault _ _ to_core-complete (also fault _ _ to_core-room Decides.none))))

-- ---- and back

module _ (mode : ℕ) (sheet core : List ℕ) (room : ℕ) where
  abbrev core_good : Bool
  core_good = leb mode 8 && (sheet_sized mode sheet && eqb (length core) (core_octets mode))

  core-fails : Fails (ToRowFault mode sheet core room) (11, core_good)
  core-fails = (fails, λ x. false_from_ne_true _ (passes x))
    where
      fails : core_good ≡ false → ToRowFault mode sheet core room 11
      fails h =
          ⊎_elim (λ e. ToRowFault.mode_above (leb-false mode 8 e))
          (λ h. ⊎_elim (λ e. let x = (sized-fails mode sheet).0 e in ToRowFault.in_sheet x.0 x.1) (λ e. ToRowFault.another_length (eqb-false _ _ e)) (and_cases _ _ h))
          (and_cases _ _ h)

      passes : ToRowFault mode sheet core room 11 → core_good ≡ true → ⊥
      passes (ToRowFault.mode_above a) h = omega (arith, a, leb-true mode 8 (and_left _ _ h))
      passes (ToRowFault.in_sheet l x) h = both_ways _ ((sized-fails mode sheet).1 (l, x)) (and_left _ _ (and_right (leb mode 8) _ h))
      passes (ToRowFault.another_length l) h = l (eqb-true _ _ (and_right (sheet_sized mode sheet) _ (and_right (leb mode 8) _ h)))

  to_row-fill : Fails (ToRowFault mode sheet core room) (5, core_fill_clear mode core)
  to_row-fill = (fails, λ x. false_from_ne_true _ (passes x))
    where
      fails : core_fill_clear mode core ≡ false → ToRowFault mode sheet core room 5
      fails e =
          let z = one-from (core_bits mode) (8 * length core - core_bits mode) (bits core) e in
          ToRowFault.filling_bit z.0 z.1 (omega (arith, z.1, z.2)) z.3

      passes : ToRowFault mode sheet core room 5 → core_fill_clear mode core ≡ true → ⊥
      passes (ToRowFault.in_sheet l x) h = elim x [ ]
      passes (ToRowFault.filling_bit j l m o) h = none-from (core_bits mode) (8 * length core - core_bits mode) (bits core) j h l (omega (arith, l, m)) o

  to_row-lent : Fails (ToRowFault mode sheet core room) (12, sheet_lent mode sheet)
  to_row-lent = ((λ h. let x = (lent-fails mode sheet).0 h in ToRowFault.in_sheet x.0 x.1), back)
    where
      back : ToRowFault mode sheet core room 12 → sheet_lent mode sheet ≡ false
      back (ToRowFault.in_sheet l x) = (lent-fails mode sheet).1 (l, x)

  to_row-complete : Fails (ToRowFault mode sheet core room) (24, sheet_complete mode sheet)
  to_row-complete = ((λ h. let x = (complete-fails mode sheet).0 h in ToRowFault.in_sheet x.0 x.1), back)
    where
      back : ToRowFault mode sheet core room 24 → sheet_complete mode sheet ≡ false
      back (ToRowFault.in_sheet l x) = (complete-fails mode sheet).1 (l, x)

  pub to_row-room : Fails (ToRowFault mode sheet core room) (10, leb (core_bits mode) room)
  to_row-room = ((λ h. ToRowFault.too_little_room (leb-false _ _ h)), back)
    where
      back : ToRowFault mode sheet core room 10 → leb (core_bits mode) room ≡ false
      back (ToRowFault.in_sheet l x) = elim x [ ]
      back (ToRowFault.too_little_room a) = lt-leb _ _ a

  abbrev of_to_row : ℕ → Bool
  of_to_row n = eqb n 11 || (eqb n 5 || (eqb n 12 || (eqb n 24 || eqb n 10)))

  to_row-only : (n : ℕ) → ToRowFault mode sheet core room n → of_to_row n ≡ true
  to_row-only n (ToRowFault.mode_above a) = refl
  to_row-only n (ToRowFault.another_length l) = refl
  to_row-only n (ToRowFault.filling_bit j l m o) = refl
  to_row-only n (ToRowFault.in_sheet l (SheetFault.another_length k e)) = refl
  to_row-only n (ToRowFault.in_sheet l (SheetFault.not_lent e)) = refl
  to_row-only n (ToRowFault.in_sheet l (SheetFault.missing i m e)) = refl
  to_row-only n (ToRowFault.too_little_room a) = refl

  to_row-first : (n : ℕ) → (to_row_call mode sheet core room ≡ refused n) ↔ FirstOf (ToRowFault mode sheet core room) refusal_order n
  unfolding to_row_call
  to_row-first n =
      let fault = ToRowFault mode sheet core room in
      refuses-first fault of_to_row to_row-only refusal_order
      ((11, core_good) ∷ (5, core_fill_clear mode core) ∷ (12, sheet_lent mode sheet) ∷ (24, sheet_complete mode sheet) ∷ (10, leb (core_bits mode) room) ∷ [])
      (row_octets (unordered (table_for mode sheet) (buffer_core core mode))) n refl
      (also fault _ _ core-fails (also fault _ _ to_row-fill (also fault _ _ to_row-lent
      (also fault _ _ to_row-complete (also fault _ _ to_row-room Decides.none)))))

pub refuses-orders : RefusesOrders to_core_call to_row_call
refuses-orders = record { to_core_exactly = to_core-first; to_row_exactly = λ mode sheet core room n o. to_row-first mode sheet core room n }
