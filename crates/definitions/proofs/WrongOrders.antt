-- A call that declines is asked for a row of zeros, the other wrong ones for a row of mode 0; a number that stands twice is at two places, where
-- `place-only` says one. Two calls that keep the row's order undo one another as ours do, only with no table between. A call that refuses where ours
-- do shows nothing without a table. Assumes nothing.
use mathlib.Core.Path.{◌≡◌, refl, sym, ap, ◌∙◌}
use mathlib.Core.Bool.{true, false, true≢false}
use mathlib.Core.List.{List, [], ◌∷◌}
use Prim.Native.Nat.{ℕ, zero, suc, ◌≤◌, ◌<◌}
use native.Mathlib.Omega.{arith}
use lib.Dec.{eqb}
use lib.ListN.{length, get_or, replicate, length-map, length-replicate}
use borrow.Author.Tests.{leb-false, le-leb, eq-eqb}
use Rattle.bits.specs.Bits.{one_if, odd, digits, num, bits, Octets, packs, pack}
use Rattle.definitions.specs.Outcome.{Outcome, refused, ok}
use Rattle.definitions.specs.Frames.{core_bits, core_octets}
use Rattle.definitions.specs.Reading.{buffer_core, core_fill_clear}
use Rattle.definitions.specs.Tables.{table0}
use Rattle.definitions.specs.Claims.{Permutes, HasTable, OrderCall, OrdersBack}
use Rattle.definitions.specs.Order.{order_table, zero_or_one, row_bits, row_octets, place_of, ordered, times, to_core_call, to_row_call}
use Rattle.definitions.specs.Refusals.{refusal_order, SheetFault, ToCoreFault, ToRowFault, RefusesOrders}
use Rattle.definitions.specs.WrongOrders.{order_kept, row_kept, WrongOrders}
use Rattle.definitions.proofs.Outcome.{first-holds, no_refusal}
use Rattle.definitions.proofs.Claims.{packed_core}
use Rattle.definitions.proofs.Order.{sheet_sized-holds, sheet_lent-holds, sheet_complete-holds, place-only, bits-row, row-bits, row-good, core-bits, to_core-shown, to_row-shown}
use Rattle.definitions.proofs.OrderRefusals.{to_core-room, to_row-room, refuses-orders}

-- two rows of mode 0
abbrev row_of : ℕ → List ℕ
row_of n = n ∷ replicate 131 0

-- a row of mode 0 whose second bit is 1: d(1) is its sixth
abbrev second_set : List ℕ
second_set = 0 ∷ (1 ∷ replicate 130 0)

-- two cores of mode 0
abbrev core_of : ℕ → List ℕ
core_of n = n ∷ replicate 16 0

own : HasTable 0 []
own = (omega arith, λ l. absurd (omega arith))

zeros : (n i : ℕ) → ◌≡◌ {A = ℕ} (get_or (replicate n 0) i 0) 0
zeros zero i = refl
zeros (suc n) zero = refl
zeros (suc n) (suc i) = zeros n i

octet : (n i : ℕ) → n < 256 → get_or (core_of n) i 0 < 256
octet n zero h = h
octet n (suc i) h = omega (arith, zeros 16 i)

twice : (k : ℕ) (table : List ℕ) (i j : ℕ) → i < j → j < k → get_or table i 0 ≡ get_or table j 0 → Permutes k table → ⊥
twice k table i j h l e p =
    let at : (n : ℕ) → n < k → times (get_or table n 0) table ≤ 1 = λ n m. omega (arith, p.once (get_or table n 0) (p.below n m)) in
    omega (arith, place-only table i (omega (arith, p.whole)) (at i (omega arith)), place-only table j (omega (arith, p.whole)) (at j l), ap (λ n. place_of n table) e)

-- ---- calls that keep the row's order

kept-ok : (m : ℕ) (sheet row : List ℕ) (room : ℕ) → HasTable m sheet → length row ≡ core_bits m → zero_or_one row ≡ true → core_octets m ≤ room
    → order_kept m sheet row room ≡ ok (pack (row_bits row))
unfolding order_kept
kept-ok m sheet row room h l v r =
    rw (le-leb m 8 h.0, sheet_sized-holds m sheet h, eq-eqb _ _ l, v, sheet_lent-holds m sheet h, sheet_complete-holds m sheet h, le-leb _ _ r)

back-ok : (m : ℕ) (sheet core : List ℕ) (room : ℕ) → HasTable m sheet → length core ≡ core_octets m → core_fill_clear m core ≡ true → core_bits m ≤ room
    → row_kept m sheet core room ≡ ok (row_octets (buffer_core core m))
unfolding row_kept
back-ok m sheet core room h l v r =
    rw (le-leb m 8 h.0, sheet_sized-holds m sheet h, eq-eqb _ _ l, v, sheet_lent-holds m sheet h, sheet_complete-holds m sheet h, le-leb _ _ r)

kept_back_lem : OrdersBack order_kept row_kept
kept_back_lem = record {
  row_back = λ m sheet row room room' h l v r r'.
      let s = row_bits row in
      let c = core-bits m s (length-map row (eqb 1) ∙ l) in
      (pack s, kept-ok m sheet row room h l v r, back-ok m sheet (pack s) room' h c.0 c.1 r' ∙ ap ok (ap row_octets c.2 ∙ row-bits row v));
  core_back = λ m sheet core room room' h o l v r r'.
      let s = buffer_core core m in
      let c = packed_core (core_bits m) core o l v in (
        row_octets s,
        back-ok m sheet core room h l v r,
        kept-ok m sheet (row_octets s) room' h (length-map s one_if ∙ c.0) (row-good s) r' ∙ ap ok (ap pack (bits-row s) ∙ sym c.1),
      );
}

-- ---- calls that refuse as ours do

-- where such a call shows something, so does ours
shows : {A : Type 0} (o p : Outcome A) (w : A) → ((n : ℕ) → p ≡ refused n → o ≡ refused n) → o ≡ ok w → (v : A) × (p ≡ ok v)
shows o (refused n) w f e = no_refusal w n (sym e ∙ f n refl)
shows o (ok v) w f e = (v, refl)

module _ (to_core to_row : OrderCall) (z : RefusesOrders to_core to_row) (m : ℕ) (sheet octets w : List ℕ) (room : ℕ) where
  core-table : to_core m sheet octets room ≡ ok w → HasTable m sheet
  core-table e =
      let s =
      shows (to_core m sheet octets room) (to_core_call m sheet octets room) w
      (λ n h. (z.to_core_exactly m sheet octets room n).1 ((refuses-orders.to_core_exactly m sheet octets room n).0 h)) e in
      (to_core-shown m sheet octets room s.0 s.1).0

  row-table : Octets octets → to_row m sheet octets room ≡ ok w → HasTable m sheet
  row-table o e =
      let s =
      shows (to_row m sheet octets room) (to_row_call m sheet octets room) w
      (λ n h. (z.to_row_exactly m sheet octets room n o).1 ((refuses-orders.to_row_exactly m sheet octets room n o).0 h)) e in
      (to_row-shown m sheet octets room s.0 s.1).0

not-lent : (m : ℕ) (sheet row : List ℕ) (room : ℕ) → ToCoreFault m sheet row room 12 → (4 < m) × (length sheet ≡ 0)
not-lent m sheet row room (ToCoreFault.in_sheet l (SheetFault.not_lent e)) = (l, e)

pub wrong_orders : WrongOrders
unfolding core_bits bits digits odd num pack packs order_table table0 ordered order_kept
wrong_orders = record {
  entry_twice = twice;
  twice_unnoticed = λ complete table i j h l e c claim. twice (length table) table i j h l e ((claim.exactly (length table) table refl).0 c);
  permutation_refused = λ complete k table p e claim. true≢false (sym ((claim.exactly k table p.whole).1 p) ∙ e);
  declines = λ to_core to_row m sheet h none claim.
      let s = replicate (core_bits m) false in
      let r = row_octets s in
      let l : length r ≡ core_bits m = length-map s one_if ∙ length-replicate (core_bits m) false in
      let b = claim.row_back m sheet r (core_octets m) (core_bits m) h l (row-good s) (omega arith) (omega arith) in
      none r (core_octets m) b.0 b.1;
  one_core = λ to_core to_row same claim.
      let a = claim.row_back 0 [] (row_of 0) 17 132 own refl refl (omega arith) (omega arith) in
      let b = claim.row_back 0 [] (row_of 1) 17 132 own refl refl (omega arith) (omega arith) in
      let s = same 0 [] (row_of 0) (row_of 1) 17 in
      let c : ◌≡◌ {A = List ℕ} a.0 b.0 = cc in
      let r : row_of 0 ≡ row_of 1 = cc in
      let z : ◌≡◌ {A = ℕ} 0 1 = ap (λ l. get_or l 0 0) r in
      omega arith;
  one_row = λ to_core to_row same claim.
      let a = claim.core_back 0 [] (core_of 0) 132 17 own (λ i. octet 0 i (omega arith)) refl refl (omega arith) (omega arith) in
      let b = claim.core_back 0 [] (core_of 128) 132 17 own (λ i. octet 128 i (omega arith)) refl refl (omega arith) (omega arith) in
      let s = same 0 [] (core_of 0) (core_of 128) 132 in
      let c : ◌≡◌ {A = List ℕ} a.0 b.0 = cc in
      let r : core_of 0 ≡ core_of 128 = cc in
      let z : ◌≡◌ {A = ℕ} 0 128 = ap (λ l. get_or l 0 0) r in
      omega arith;
  kept_back = kept_back_lem;
  keeps_order = λ claim.
      let e : true ≡ false = claim.bit 0 [] second_set _ 17 1 refl (omega arith) in
      true≢false e;
  core_fits = λ to_core to_row mode sheet row room l h claim.
      omega (
        arith,
        l,
        leb-false _ _ ((to_core-room mode sheet row room).1
            (first-holds (ToCoreFault mode sheet row room) refusal_order 10 ((claim.to_core_exactly mode sheet row room 10).0 h))),
      );
  row_fits = λ to_core to_row mode sheet core room o l h claim.
      omega (
        arith,
        l,
        leb-false _ _ ((to_row-room mode sheet core room).1
            (first-holds (ToRowFault mode sheet core room) refusal_order 10 ((claim.to_row_exactly mode sheet core room 10 o).0 h))),
      );
  reads_sheet = λ order mode sheet sheet' octets room h other claim. other (claim.unread mode sheet sheet' octets room h);
  no_order = λ to_core to_row mode sheet row room l h claim.
      l (not-lent mode sheet row room (first-holds (ToCoreFault mode sheet row room) refusal_order 12 ((claim.to_core_exactly mode sheet row room 12).0 h)));
  other_length = λ to_core to_row mode sheet row w room i l h claim. l ((core-table to_core to_row claim mode sheet row w room h).1 i).whole;
  incomplete = λ to_core to_row mode sheet core w room n o i m e h claim.
      omega (arith, e, ((row-table to_core to_row claim mode sheet core w room o h).1 i).once n m);
}
