-- A table that holds each of 0 to K-1 exactly one time takes the codec bits to the core and back: where it has n there is n, and there alone.
-- A mode's own table is such a table, and so is a sheet that passes its tests. Assumes nothing.
use mathlib.Core.Path.{◌≡◌, refl, sym, ap, ◌∙◌, subst}
use mathlib.Core.Bool.{Bool, true, false, ◌&&◌, ◌||◌, cond}
use mathlib.Core.List.{List, [], ◌∷◌, map}
use mathlib.Core.Logic.{⊎_elim, ◌↔◌}
use Prim.Native.Nat.{ℕ, zero, suc, ◌+◌, ◌-◌, ◌*◌, ◌≤◌, ◌<◌}
use native.Mathlib.Omega.{arith}
use lib.Dec.{eqb, leb}
use lib.ListN.{length, get_or, take, drop, length-map}
use lib.Seq.{ext_get_or}
use Rattle.std.proofs.lemmas.List.{get_or-take}
use Rattle.std.proofs.lemmas.Bool.{or_cases}
use borrow.Author.Tests.{leb-true, leb-false, le-leb, lt-leb, eqb-true, eq-eqb}
use Rattle.bits.specs.Bits.{one_if, clear, bits, pack, octets_for, Octets}
use Rattle.bits.proofs.BitLaws.{length-pack, pack_octets}
use Rattle.bits.proofs.Tests.{and_left, and_right, or_else, every_below, every_below_lem}
use Rattle.definitions.specs.Outcome.{ok}
use Rattle.definitions.specs.Frames.{core_bits, core_octets}
use Rattle.definitions.specs.Reading.{buffer_core, core_fill_clear}
use Rattle.definitions.specs.Tables.{table0, table1, table2, table3, table4}
use Rattle.definitions.specs.Order.{order_table, codec_bit, zero_or_one, row_bits, row_octets, ordered, place_of, numbers_from, unordered, table_for, times, none_missing, sheet_sized, sheet_lent, sheet_complete, to_core_call, to_row_call}
use Rattle.definitions.specs.Claims.{Permutes, TablesPermute, TestsTables, HasTable, OrdersBack, OrdersByTables, LeavesUnread}
use Rattle.definitions.proofs.Outcome.{unless-ok}
use Rattle.definitions.proofs.Claims.{packed_core, bits-core}
use Rattle.definitions.proofs.Counting.{complete-permutes, permutes-complete}

-- ---- the rule of the tables, by one test that antt computes over all of them

abbrev permutes : ℕ → List ℕ → Bool
permutes k table = eqb (length table) k && (every_below k (λ j. leb (suc (get_or table j 0)) k) && every_below k (λ n. eqb (times n table) 1))

permutes_true : (k : ℕ) (table : List ℕ) → permutes k table ≡ true → Permutes k table
permutes_true k table h =
    let r = and_right (eqb (length table) k) _ h in
    record {
      whole = eqb-true _ _ (and_left _ _ h);
      below = λ j l. leb-true _ _ (every_below_lem k (λ j. leb (suc (get_or table j 0)) k) (and_left _ _ r) j l);
      once = λ n l. eqb-true _ _ (every_below_lem k (λ n. eqb (times n table) 1) (and_right (every_below k (λ j. leb (suc (get_or table j 0)) k)) _ r) n l);
    }

pub tables_permute : TablesPermute
unfolding core_bits order_table table0 table1 table2 table3 table4
tables_permute = record { each = λ m l. permutes_true _ _ (every_below_lem 5 (λ m. permutes (core_bits m) (order_table m)) refl m (omega arith)) }

pub tests_tables : TestsTables none_missing
tests_tables = record { exactly = λ k table w. (complete-permutes k table w, permutes-complete k table) }

-- ---- the table of a mode, its own or the sheet

-- a test of the sheet is one of the modes 5 to 8
of_sheet : (m : ℕ) (c : Bool) → ((leb m 4 || c) ≡ true) ↔ (4 < m → c ≡ true)
of_sheet m c = ((λ h l. or_else (leb m 4) c h (lt-leb m 4 l)), go (leb m 4) refl)
  where
    go : (b : Bool) → leb m 4 ≡ b → (4 < m → c ≡ true) → (b || c) ≡ true
    go true e h = refl
    go false e h = h (leb-false m 4 e)

-- no mode is without bits
some-bits : (m : ℕ) → m ≤ 8 → 1 ≤ core_bits m
unfolding core_bits
some-bits m h = leb-true 1 (core_bits m) (every_below_lem 9 (λ m. leb 1 (core_bits m)) refl m (omega arith))

module _ (m : ℕ) (sheet : List ℕ) (h : HasTable m sheet) where
  pub table-permutes : Permutes (core_bits m) (table_for m sheet)
  table-permutes = go (leb m 4) refl
    where
      go : (b : Bool) → leb m 4 ≡ b → Permutes (core_bits m) (cond b (order_table m) sheet)
      go true e = tables_permute.each m (leb-true m 4 e)
      go false e = h.1 (leb-false m 4 e)

  pub sheet_sized-holds : sheet_sized m sheet ≡ true
  sheet_sized-holds = (of_sheet m _).1 (λ l. rw (eq-eqb (length sheet) (core_bits m) (h.1 l).whole))

  pub sheet_lent-holds : sheet_lent m sheet ≡ true
  sheet_lent-holds = (of_sheet m _).1 (λ l. le-leb 1 (length sheet) (omega (arith, (h.1 l).whole, some-bits m h.0)))

  pub sheet_complete-holds : sheet_complete m sheet ≡ true
  sheet_complete-holds = (of_sheet m _).1 (λ l. permutes-complete (core_bits m) sheet (h.1 l))

-- a sheet that passes the tests is a permutation
pub has_table : (m : ℕ) (sheet : List ℕ) → m ≤ 8 → sheet_sized m sheet ≡ true → sheet_lent m sheet ≡ true → sheet_complete m sheet ≡ true → HasTable m sheet
has_table m sheet h s l c = (h, λ i. complete-permutes (core_bits m) sheet (whole i) ((of_sheet m _).0 c i))
  where
    whole : 4 < m → length sheet ≡ core_bits m
    whole i =
        let some = leb-true 1 (length sheet) ((of_sheet m _).0 l i) in
        ⊎_elim (λ e. eqb-true _ _ e) (λ e. absurd (omega (arith, some, eqb-true (length sheet) 0 e))) (or_cases _ _ ((of_sheet m _).0 s i))

-- ---- place_of

-- where the table has n there is n
place-there : (n : ℕ) (table : List ℕ) → 1 ≤ times n table → (place_of n table < length table) × (get_or table (place_of n table) 0 ≡ n)
place-there n [] h = absurd (omega arith)
place-there n (t ∷ table) h = go (eqb n t) refl h (λ l. place-there n table l)
  where
    go : (b : Bool) → eqb n t ≡ b → 1 ≤ one_if b + times n table
        → (1 ≤ times n table → (place_of n table < length table) × (get_or table (place_of n table) 0 ≡ n))
        → (cond b 0 (suc (place_of n table)) < suc (length table)) × (get_or (t ∷ table) (cond b 0 (suc (place_of n table))) 0 ≡ n)
    go true e h ih = (omega arith, sym (eqb-true n t e))
    go false e h ih = let r = ih (omega arith) in (omega (arith, r.0), r.1)

occurs : (table : List ℕ) (j : ℕ) → j < length table → 1 ≤ times (get_or table j 0) table
occurs [] j l = absurd (omega arith)
occurs (t ∷ table) zero l = let e : one_if (eqb t t) ≡ 1 = ap one_if (eq-eqb t t refl) in omega arith
occurs (t ∷ table) (suc j) l = omega (arith, occurs table j (omega arith))

-- and there alone
pub place-only : (table : List ℕ) (j : ℕ) → j < length table → times (get_or table j 0) table ≤ 1 → place_of (get_or table j 0) table ≡ j
place-only [] j l h = absurd (omega arith)
place-only (t ∷ table) zero l h = ap (λ b. cond b 0 (suc (place_of t table))) (eq-eqb t t refl)
place-only (t ∷ table) (suc j) l h = go (eqb (get_or table j 0) t) h (λ r. place-only table j (omega arith) r)
  where
    go : (b : Bool) → one_if b + times (get_or table j 0) table ≤ 1 → (times (get_or table j 0) table ≤ 1 → place_of (get_or table j 0) table ≡ j)
        → cond b 0 (suc (place_of (get_or table j 0) table)) ≡ suc j
    go true h ih = absurd (omega (arith, occurs table j (omega arith)))
    go false h ih = ap suc (ih (omega arith))

-- ---- ordered and unordered, bit by bit

pub get_or_map : {A B : Type 0} (f : A → B) (l : List A) (i : ℕ) (d : A) (e : B) → i < length l → get_or (map f l) i e ≡ f (get_or l i d)
get_or_map f [] i d e h = absurd (omega arith)
get_or_map f (x ∷ l) zero d e h = refl
get_or_map f (x ∷ l) (suc i) d e h = get_or_map f l i d e (omega arith)

length-numbers_from : (n k : ℕ) → length (numbers_from n k) ≡ k
length-numbers_from n zero = refl
length-numbers_from n (suc k) = ap suc (length-numbers_from (suc n) k)

get_or-numbers_from : (n k i : ℕ) → i < k → get_or (numbers_from n k) i 0 ≡ n + i
get_or-numbers_from n zero i h = absurd (omega arith)
get_or-numbers_from n (suc k) zero h = omega arith
get_or-numbers_from n (suc k) (suc i) h = get_or-numbers_from (suc n) k i (omega arith) ∙ (let e : suc n + i ≡ n + suc i = omega arith in e)

pub length-ordered : (table : List ℕ) (s : List Bool) → length (ordered table s) ≡ length table
unfolding ordered
length-ordered table s = length-map table _

ordered-bit : (table : List ℕ) (s : List Bool) (j : ℕ) → j < length table → get_or (ordered table s) j false ≡ codec_bit s (get_or table j 0 + 1)
unfolding ordered
ordered-bit table s j h = get_or_map (λ n. codec_bit s (n + 1)) table j 0 false h

pub get_or-ordered : (table : List ℕ) (s : List Bool) (j : ℕ) → j < length table → get_or (ordered table s) j false ≡ get_or s (get_or table j 0) false
get_or-ordered table s j h =
    ordered-bit table s j h ∙ ap (λ n. get_or s n false) (let e : get_or table j 0 + 1 - 1 ≡ get_or table j 0 = omega arith in e)

pub length-unordered : (table : List ℕ) (d : List Bool) → length (unordered table d) ≡ length table
unfolding unordered
length-unordered table d = length-map (numbers_from 0 (length table)) _ ∙ length-numbers_from 0 (length table)

pub get_or-unordered : (table : List ℕ) (d : List Bool) (n : ℕ) → n < length table → get_or (unordered table d) n false ≡ get_or d (place_of n table) false
unfolding unordered
get_or-unordered table d n h =
    get_or_map (λ n. get_or d (place_of n table) false) (numbers_from 0 (length table)) n 0 false (omega (arith, length-numbers_from 0 (length table)))
    ∙ ap (λ n. get_or d (place_of n table) false) (get_or-numbers_from 0 (length table) n h ∙ (let e : 0 + n ≡ n = omega arith in e))

-- ---- the one argument: each undoes the other

module _ (k : ℕ) (table : List ℕ) (p : Permutes k table) where
  pub place_of_lem : (j : ℕ) → j < k → place_of (get_or table j 0) table ≡ j
  place_of_lem j h =
      let w = p.whole in
      place-only table j (omega arith) (omega (arith, p.once (get_or table j 0) (p.below j h)))

  pub of_place : (n : ℕ) → n < k → (place_of n table < k) × (get_or table (place_of n table) 0 ≡ n)
  of_place n h =
      let w = p.whole in
      let r = place-there n table (omega (arith, p.once n h)) in
      (omega (arith, r.0), r.1)

  pub ordered-unordered : (d : List Bool) → length d ≡ k → ordered table (unordered table d) ≡ d
  ordered-unordered d l =
      let w = p.whole in
      ext_get_or false _ d (length-ordered table (unordered table d) ∙ w ∙ sym l)
      (λ j h.
      let i : j < k = omega (arith, length-ordered table (unordered table d)) in
      get_or-ordered table (unordered table d) j (omega arith)
      ∙ get_or-unordered table d (get_or table j 0) (omega (arith, p.below j i))
      ∙ ap (λ n. get_or d n false) (place_of_lem j i))

  pub unordered-ordered : (s : List Bool) → length s ≡ k → unordered table (ordered table s) ≡ s
  unordered-ordered s l =
      let w = p.whole in
      ext_get_or false _ s (length-unordered table (ordered table s) ∙ w ∙ sym l)
      (λ n h.
      let i : n < k = omega (arith, length-unordered table (ordered table s)) in
      let r = of_place n i in
      get_or-unordered table (ordered table s) n (omega arith)
      ∙ get_or-ordered table s (place_of n table) (omega (arith, r.0))
      ∙ ap (λ m. get_or s m false) r.1)

-- ---- rows

pub bits-row : (s : List Bool) → row_bits (row_octets s) ≡ s
bits-row [] = refl
bits-row (true ∷ s) = ap (λ l. true ∷ l) (bits-row s)
bits-row (false ∷ s) = ap (λ l. false ∷ l) (bits-row s)

pub row-bits : (row : List ℕ) → zero_or_one row ≡ true → row_octets (row_bits row) ≡ row
row-bits [] h = refl
row-bits (zero ∷ row) h = ap (λ l. 0 ∷ l) (row-bits row h)
row-bits (suc zero ∷ row) h = ap (λ l. 1 ∷ l) (row-bits row h)
row-bits (suc (suc o) ∷ row) h = absurd (omega (arith, leb-true (suc (suc o)) 1 (and_left (leb (suc (suc o)) 1) (zero_or_one row) h)))

pub row-good : (s : List Bool) → zero_or_one (row_octets s) ≡ true
row-good [] = refl
row-good (true ∷ s) = row-good s
row-good (false ∷ s) = row-good s

-- ---- the calls

-- what neither call refuses, by the tests of each
to_core-ok : (m : ℕ) (sheet row : List ℕ) (room : ℕ) → HasTable m sheet → length row ≡ core_bits m → zero_or_one row ≡ true → core_octets m ≤ room
    → to_core_call m sheet row room ≡ ok (pack (ordered (table_for m sheet) (row_bits row)))
unfolding to_core_call
to_core-ok m sheet row room h l v r =
    rw (le-leb m 8 h.0, sheet_sized-holds m sheet h, eq-eqb _ _ l, v, sheet_lent-holds m sheet h, sheet_complete-holds m sheet h, le-leb _ _ r)

to_row-ok : (m : ℕ) (sheet core : List ℕ) (room : ℕ) → HasTable m sheet → length core ≡ core_octets m → core_fill_clear m core ≡ true → core_bits m ≤ room
    → to_row_call m sheet core room ≡ ok (row_octets (unordered (table_for m sheet) (buffer_core core m)))
unfolding to_row_call
to_row-ok m sheet core room h l v r =
    rw (le-leb m 8 h.0, sheet_sized-holds m sheet h, eq-eqb _ _ l, v, sheet_lent-holds m sheet h, sheet_complete-holds m sheet h, le-leb _ _ r)

-- a packed core is its bits, and its filling is 0
pub core-bits : (m : ℕ) (d : List Bool) → length d ≡ core_bits m
    → (length (pack d) ≡ core_octets m) × (core_fill_clear m (pack d) ≡ true) × (buffer_core (pack d) m ≡ d)
core-bits m d l =
    let b = bits-core d in (
      length-pack d ∙ ap octets_for l,
      ap (λ k. clear (8 * length (pack d) - k) (drop k (bits (pack d)))) (sym l) ∙ b.1,
      ap (λ k. take k (bits (pack d))) (sym l) ∙ b.0,
    )

-- what each call has judged where it shows something
pub to_core-shown : (m : ℕ) (sheet row : List ℕ) (room : ℕ) (core : List ℕ) → to_core_call m sheet row room ≡ ok core
    → HasTable m sheet × (length row ≡ core_bits m) × (zero_or_one row ≡ true) × (core_octets m ≤ room) × (pack (ordered (table_for m sheet) (row_bits row)) ≡ core)
unfolding to_core_call
to_core-shown m sheet row room core e =
    let a = unless-ok 11 (leb m 8 && (sheet_sized m sheet && (eqb (length row) (core_bits m) && zero_or_one row))) _ core e in
    let b = unless-ok 12 (sheet_lent m sheet) _ core a.1 in
    let c = unless-ok 24 (sheet_complete m sheet) _ core b.1 in
    let d = unless-ok 10 (leb (core_octets m) room) _ core c.1 in
    let u = and_right (leb m 8) _ a.0 in
    let v = and_right (sheet_sized m sheet) _ u in
    let h = has_table m sheet (leb-true m 8 (and_left _ _ a.0)) (and_left _ _ u) b.0 c.0 in
    (h, eqb-true _ _ (and_left _ _ v), and_right (eqb (length row) (core_bits m)) _ v, leb-true _ _ d.0, (let w = d.1 in cc))

pub to_row-shown : (m : ℕ) (sheet core : List ℕ) (room : ℕ) (row : List ℕ) → to_row_call m sheet core room ≡ ok row
    → HasTable m sheet × (length core ≡ core_octets m) × (core_fill_clear m core ≡ true) × (core_bits m ≤ room)
    × (row_octets (unordered (table_for m sheet) (buffer_core core m)) ≡ row)
unfolding to_row_call
to_row-shown m sheet core room row e =
    let a = unless-ok 11 (leb m 8 && (sheet_sized m sheet && eqb (length core) (core_octets m))) _ row e in
    let b = unless-ok 5 (core_fill_clear m core) _ row a.1 in
    let c = unless-ok 12 (sheet_lent m sheet) _ row b.1 in
    let d = unless-ok 24 (sheet_complete m sheet) _ row c.1 in
    let f = unless-ok 10 (leb (core_bits m) room) _ row d.1 in
    let u = and_right (leb m 8) _ a.0 in
    let h = has_table m sheet (leb-true m 8 (and_left _ _ a.0)) (and_left _ _ u) c.0 d.0 in
    (h, eqb-true _ _ (and_right (sheet_sized m sheet) _ u), b.0, leb-true _ _ f.0, (let w = f.1 in cc))

pub orders_by_tables : OrdersByTables to_core_call
orders_by_tables = record { bit = bit_at; packed = whole }
  where
    bit_at : (m : ℕ) (sheet row core : List ℕ) (room j : ℕ) → to_core_call m sheet row room ≡ ok core → j < core_bits m
        → get_or (bits core) j false ≡ codec_bit (row_bits row) (get_or (table_for m sheet) j 0 + 1)
    bit_at m sheet row core room j e l =
        let t = table_for m sheet in
        let s = row_bits row in
        let r = to_core-shown m sheet row room core e in
        let w = (table-permutes m sheet r.0).whole in
        let c = core-bits m (ordered t s) (length-ordered t s ∙ w) in
        ap (λ d. get_or (bits d) j false) (sym r.4)
        ∙ sym (get_or-take (core_bits m) (bits (pack (ordered t s))) j false l)
        ∙ ap (λ d. get_or d j false) c.2
        ∙ ordered-bit t s j (omega arith)

    whole : (m : ℕ) (sheet row core : List ℕ) (room : ℕ) → to_core_call m sheet row room ≡ ok core
        → Octets core × (length core ≡ core_octets m) × (core_fill_clear m core ≡ true)
    whole m sheet row core room e =
        let t = table_for m sheet in
        let d = ordered t (row_bits row) in
        let r = to_core-shown m sheet row room core e in
        let c = core-bits m d (length-ordered t (row_bits row) ∙ (table-permutes m sheet r.0).whole) in
        subst (λ core. Octets core × (length core ≡ core_octets m) × (core_fill_clear m core ≡ true)) r.4 (pack_octets d, c.0, c.1)

pub orders_back : OrdersBack to_core_call to_row_call
orders_back = record { row_back = there; core_back = back }
  where
    there : (m : ℕ) (sheet row : List ℕ) (room room' : ℕ) → HasTable m sheet → length row ≡ core_bits m → zero_or_one row ≡ true → core_octets m ≤ room
        → core_bits m ≤ room' → (core : List ℕ) × (to_core_call m sheet row room ≡ ok core) × (to_row_call m sheet core room' ≡ ok row)
    there m sheet row room room' h l v r r' =
        let t = table_for m sheet in
        let p = table-permutes m sheet h in
        let s = row_bits row in
        let d = ordered t s in
        let c = core-bits m d (length-ordered t s ∙ p.whole) in (
          pack d,
          to_core-ok m sheet row room h l v r,
          to_row-ok m sheet (pack d) room' h c.0 c.1 r'
              ∙ ap ok (ap (λ d. row_octets (unordered t d)) c.2 ∙ ap row_octets (unordered-ordered _ t p s (length-map row (eqb 1) ∙ l)) ∙ row-bits row v),
        )

    back : (m : ℕ) (sheet core : List ℕ) (room room' : ℕ) → HasTable m sheet → Octets core → length core ≡ core_octets m → core_fill_clear m core ≡ true
        → core_bits m ≤ room → core_octets m ≤ room' → (row : List ℕ) × (to_row_call m sheet core room ≡ ok row) × (to_core_call m sheet row room' ≡ ok core)
    back m sheet core room room' h o l v r r' =
        let t = table_for m sheet in
        let p = table-permutes m sheet h in
        let c = packed_core (core_bits m) core o l v in
        let s = unordered t (buffer_core core m) in (
          row_octets s,
          to_row-ok m sheet core room h l v r,
          to_core-ok m sheet (row_octets s) room' h (length-map s one_if ∙ length-unordered t (buffer_core core m) ∙ p.whole) (row-good s) r'
              ∙ ap ok (ap (λ s. pack (ordered t s)) (bits-row s) ∙ ap pack (ordered-unordered _ t p (buffer_core core m) c.0) ∙ sym c.1),
        )

pub to_core-unread : LeavesUnread to_core_call
unfolding to_core_call
to_core-unread = record { unread = λ m sheet sheet' octets room h. rw (le-leb m 4 h) }

pub to_row-unread : LeavesUnread to_row_call
unfolding to_row_call
to_row-unread = record { unread = λ m sheet sheet' octets room h. rw (le-leb m 4 h) }
