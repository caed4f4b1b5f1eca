-- A wrong reader shows a table whose sheet the text is not, or refuses by a number whose condition does not hold or is not the first that does. No
-- number in a sheet has a leading zero, no sheet is the beginning of another, and none is the sheet of two tables. Assumes nothing.
use mathlib.Core.Path.{◌≡◌, refl, sym, ap, ◌∙◌, subst}
use mathlib.Core.Bool.{false}
use mathlib.Core.List.{List, ◌∷◌, ◌++◌}
use Prim.Native.Nat.{ℕ, ◌≤◌, ◌<◌}
use native.Mathlib.Omega.{arith}
use lib.ListN.{length, take, drop, length-drop, take-append-drop}
use Rattle.std.proofs.lemmas.Bool.{false_from_ne_true}
use Rattle.definitions.specs.Outcome.{refused}
use Rattle.definitions.specs.Frames.{core_bits}
use Rattle.definitions.specs.Order.{numbers_from, times, none_missing}
use Rattle.definitions.specs.Refusals.{refusal_order, FirstOf}
use Rattle.definitions.proofs.Outcome.{same_number, first-holds}
use Rattle.definitions.proofs.Counting.{complete-permutes, missing-none}
use Rattle.definitions.proofs.WrongOrders.{wrong_orders}
use Rattle.order_sheets_spec.specs.Sheets.{sheet_text, sheet_call}
use Rattle.order_sheets_spec.specs.Claims.{IsSheet, NoSheet, ReadFault}
use Rattle.order_sheets_spec.specs.WrongSheets.{WrongSheets}
use Rattle.order_sheets_spec.proofs.LeadingZeros.{no_leading_zero}
use Rattle.order_sheets_spec.proofs.Form.{form-complete, nothing_behind, sheets_differ}
use Rattle.order_sheets_spec.proofs.Refusals.{refuses_sheets}

-- the sheet of mode 5 whose numbers are in order
abbrev in_order : List ℕ
in_order = numbers_from 0 365

in_order-sheet : IsSheet (sheet_text 5 in_order) 5 in_order
unfolding core_bits
in_order-sheet = record { mode_low = omega arith; mode_high = omega arith; whole = refl; printed = refl }

part_is_none : (text : List ℕ) (mode : ℕ) (numbers : List ℕ) (n m : ℕ) (table : List ℕ) → IsSheet text mode numbers → n < length text
    → IsSheet (take n text) m table → ⊥
part_is_none text mode numbers n m table i l j =
    let whole = subst (λ t. IsSheet t mode numbers) (sym (take-append-drop n text)) i in
    omega (arith, nothing_behind (take n text) (drop n text) m mode table numbers j whole, length-drop n text)

-- the numbers whose condition does not hold
module _ (text : List ℕ) (room m : ℕ) (table : List ℕ) (i : IsSheet text m table) where
  no_23 : ReadFault text room 23 → ⊥
  no_23 (ReadFault.no_sheet none) = none m table i

  no_10 : core_bits m ≤ room → ReadFault text room 10 → ⊥
  no_10 h (ReadFault.too_little_room m' table' i' l) =
      let e = ap core_bits (sheets_differ.one_table text m m' table table' i i').0 in
      omega arith

  -- 24 is judged before 10
  not_first : (n : ℕ) → n < core_bits m → times n table ≡ 0 → FirstOf (ReadFault text room) refusal_order 10 → ⊥
  unfolding sheet_call
  not_first n l z x =
      let c : none_missing (core_bits m) table ≡ false = false_from_ne_true _ (λ g. omega (arith, missing-none (core_bits m) table g n l)) in
      let e : sheet_call text room ≡ refused 24 = rw (form-complete text m table i, c) in
      omega (arith, same_number 24 10 (sym e ∙ (refuses_sheets.exactly text room 10).1 x))

no_24 : (text : List ℕ) (room : ℕ) → NoSheet text → ReadFault text room 24 → ⊥
no_24 text room none (ReadFault.missing m table n i l z) = none m table i

pub wrong_sheets : WrongSheets
unfolding core_bits
wrong_sheets = record {
  declines = λ read none r.
      none (sheet_text 5 in_order) 365 5 in_order
      ((r.exactly (sheet_text 5 in_order) 365 5 in_order).1 (in_order-sheet, complete-permutes 365 in_order refl refl, omega arith));
  leading_zero = λ read front s b c room m table p q h r.
      no_leading_zero _ m table ((r.exactly (front ++ (b ∷ 0x30 ∷ c ∷ s)) room m table).0 h).0 front b c s p q refl;
  ends_early = λ read text mode numbers n room m table i l h r.
      part_is_none text mode numbers n m table i l ((r.exactly (take n text) room m table).0 h).0;
  goes_on = λ read text mode numbers s room m table i some h r.
      some (nothing_behind text s mode m numbers table i ((r.exactly (text ++ s) room m table).0 h).0);
  number_twice = λ read text room m table i j l b e h r. wrong_orders.entry_twice (core_bits m) table i j l b e ((r.exactly text room m table).0 h).1;
  other_table = λ read text room m mode table written i differs h r.
      differs (sheets_differ.one_table text m mode table written ((r.exactly text room m table).0 h).0 i);
  short_row = λ read text room m table l h r. omega (arith, ((r.exactly text room m table).0 h).2);
  form_strict = λ read text room m table i h f.
      no_23 text room m table i (first-holds (ReadFault text room) refusal_order 23 ((f.exactly text room 23).0 h));
  form_late = λ read text room none h f. no_24 text room none (first-holds (ReadFault text room) refusal_order 24 ((f.exactly text room 24).0 h));
  room_first = λ read text room m table n i l z h f. not_first text room m table i n l z ((f.exactly text room 10).0 h);
  row_fits = λ read text room m table i l h f.
      no_10 text room m table i l (first-holds (ReadFault text room) refusal_order 10 ((f.exactly text room 10).0 h));
}
