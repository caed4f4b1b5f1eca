-- The loops of the ordering calls over plain lists: a row's octets as bits, the core's bits gathered into octets, and a core's bits put where
-- the table says. Assumes nothing.
use mathlib.Core.Path.{◌≡◌, refl, sym, ap, ap₂, ◌∙◌}
use mathlib.Core.Bool.{Bool, true, false}
use mathlib.Core.List.{List, [], ◌∷◌, ◌++◌}
use mathlib.Core.Logic.{⊎_elim}
use Prim.Native.Nat.{ℕ, zero, suc, ◌+◌, ◌-◌, ◌*◌, ◌%◌, ◌^◌, ◌≤◌, ◌<◌, ◌/◌}
use native.Mathlib.Nat.{add-zero, mul_assoc, mul_comm, mod-eq_of_lt, pow-succ'}
use native.Mathlib.Omega.{arith}
use lib.Dec.{eqb, leb}
use lib.ListN.{length, get_or, set, take, drop, length-append, length-drop, length-map, length-set, get_or-append, get_or-eq_default}
use lib.Pow.{pow_mono}
use lib.Seq.{ext_get_or, drop-cons, drop-drop, get_or-drop, get_or-set_same, get_or-set_other, get_or-append-add, set_at, append_snoc}
use mir.Val.{bool_byte}
use Rattle.std.proofs.lemmas.List.{take-map, drop-map, length-take-le, get_or-take}
use Rattle.std.specs.Simd.{first_chunks}
use borrow.Author.Tests.{leb-true}
use Rattle.bits.specs.Bits.{one_if, num, packs, pack, octets_for}
use Rattle.std.proofs.lemmas.Bool.{cases_lt}
use Rattle.bits.proofs.BitLaws.{num-lt, num-take, length-packs}
use Rattle.bits.proofs.Tests.{and_left, and_right}
use Rattle.definitions.specs.Reading.{overwritten}
use Rattle.definitions.specs.Order.{codec_bit, zero_or_one, row_bits, row_octets, ordered, place_of, unordered}
use Rattle.definitions.specs.Claims.{Permutes}
use Rattle.definitions.proofs.Order.{get_or_map, length-ordered, get_or-ordered, length-unordered, get_or-unordered, place_of_lem, of_place}

-- ---- a row of 0 and 1

-- the number of a bit that came of a number below 2
one_if_eqb : (o : ℕ) → o ≤ 1 → one_if (eqb 1 o) ≡ o
one_if_eqb zero h = refl
one_if_eqb (suc zero) h = refl
one_if_eqb (suc (suc o)) h = absurd (omega arith)

-- an octet of the row is the number of its bit
pub row_bit : (row : List ℕ) (n : ℕ) → zero_or_one row ≡ true → n < length row → (get_or row n 0 ≤ 1) × (one_if (get_or (row_bits row) n false) ≡ get_or row n 0)
row_bit [] n v h = absurd (omega arith)
row_bit (o ∷ row) zero v h = let l = leb-true o 1 (and_left (leb o 1) (zero_or_one row) v) in (l, one_if_eqb o l)
row_bit (o ∷ row) (suc n) v h = row_bit row n (and_right (leb o 1) (zero_or_one row) v) (omega arith)

-- ---- num and packs, from the other end

pub num-none : (l : List Bool) → 0 ≡ num 0 l
unfolding num
num-none l = refl

pub num-snoc : (i : ℕ) (l : List Bool) → num (suc i) l ≡ num i l * 2 + one_if (get_or l i false)
unfolding num
num-snoc zero [] = refl
num-snoc zero (true ∷ l) = refl
num-snoc zero (false ∷ l) = refl
num-snoc (suc i) [] = refl
num-snoc (suc i) (true ∷ l) = omega (arith, num-snoc i l, pow-succ' 2 i)
num-snoc (suc i) (false ∷ l) = omega (arith, num-snoc i l, pow-succ' 2 i)

-- bits that the list lacks are 0
pub num_short : (n p : ℕ) (l : List Bool) → length l ≤ n → num (n + p) l ≡ num n l * 2 ^ p
num_short n zero l h = ap (λ m. num m l) (let e : n + 0 ≡ n = omega arith in e) ∙ (let e : num n l ≡ num n l * 2 ^ 0 = omega arith in e)
num_short n (suc p) l h =
    let e : n + suc p ≡ suc (n + p) = omega arith in
    let z : get_or l (n + p) false ≡ false = get_or-eq_default l false (omega arith) in
    ap (λ m. num m l) e ∙ num-snoc (n + p) l ∙ ap₂ (λ a b. a * 2 + one_if b) (num_short n p l h) z
    ∙ add-zero (num n l * 2 ^ p * 2) ∙ mul_assoc (num n l) (2 ^ p) 2 ∙ ap (λ k. num n l * k) (mul_comm (2 ^ p) 2 ∙ sym (pow-succ' 2 p))

-- the next bit of the core is the octet of the row that the part of the table names
pub record Gathered (part row : List ℕ) (i v : ℕ) : Type 0 where
  pub bit : get_or row (get_or part i 0) 0 ≤ 1
  pub small : v ≤ 127
  pub more : v * 2 + get_or row (get_or part i 0) 0 ≡ num (i + 1) (ordered part (row_bits row))

pub gathered : (part row : List ℕ) (i v : ℕ) → get_or part i 0 < length row → zero_or_one row ≡ true → i < length part → length part ≤ 8
    → v ≡ num i (ordered part (row_bits row)) → Gathered part row i v
gathered part row i v n z h s e =
    let l = ordered part (row_bits row) in
    let b = row_bit row (get_or part i 0) z n in
    record {
      bit = b.0;
      small = omega (arith, num-lt i l, pow_mono {i = i} {j = 7} (omega arith));
      more = ap₂ (λ v o. v * 2 + o) e (sym (ap one_if (get_or-ordered part (row_bits row) i h) ∙ b.1)) ∙ sym (num-snoc i l) ∙ ap (λ n. num n l) (let q : suc i ≡ i + 1 = omega arith in q);
    }

packs-snoc : (j : ℕ) (l : List Bool) → packs (suc j) l ≡ packs j l ++ (num 8 (drop (8 * j) l) ∷ [])
unfolding packs
packs-snoc zero l = refl
packs-snoc (suc j) l =
    ap (λ r. num 8 l ∷ r)
    (packs-snoc j (drop 8 l)
    ∙ ap (λ d. packs j (drop 8 l) ++ (num 8 d ∷ [])) (drop-drop (8 * j) 8 l ∙ ap (λ n. drop n l) (let e : 8 + 8 * j ≡ 8 * suc j = omega arith in e)))

-- ---- the core, octet by octet

pub core-none : (l : List Bool) (core : List ℕ) → core ≡ packs 0 l ++ drop 0 core
unfolding packs
core-none l core = refl

pub core_more : (l : List Bool) (core₀ core : List ℕ) (j v : ℕ) → core ≡ packs j l ++ drop j core₀ → j < length core₀ → v ≡ num 8 (drop (8 * j) l)
    → set core j v ≡ packs (j + 1) l ++ drop (j + 1) core₀
core_more l core₀ core j v e h w =
    let s : suc j ≡ j + 1 = omega arith in
    ap₂ (λ c v. set c j v) (e ∙ ap (λ d. packs j l ++ d) (drop-cons core₀ j 0 h)) w
    ∙ set_at (packs j l) (get_or core₀ j 0) (drop (suc j) core₀) (num 8 (drop (8 * j) l)) j (length-packs j l)
    ∙ sym (append_snoc (packs j l) (num 8 (drop (8 * j) l)) (drop (suc j) core₀))
    ∙ ap (λ p. p ++ drop (suc j) core₀) (sym (packs-snoc j l))
    ∙ ap (λ n. packs n l ++ drop n core₀) s

-- the bits behind the last whole octet, shifted up
pub last_octet : (l : List Bool) (w left v : ℕ) → length l ≡ 8 * w + left → left < 8 → v ≡ num left (drop (8 * w) l)
    → v * 2 ^ (8 - left) % 256 ≡ num 8 (drop (8 * w) l)
last_octet l w left v n h e =
    let d = drop (8 * w) l in
    let s : num left d * 2 ^ (8 - left) ≡ num 8 d =
    sym (num_short left (8 - left) d (omega (arith, length-drop (8 * w) l))) ∙ ap (λ k. num k d) (let q : left + (8 - left) ≡ 8 = omega arith in q) in
    ap (λ v. v * 2 ^ (8 - left) % 256) e ∙ ap (λ k. k % 256) s ∙ mod-eq_of_lt (num-lt 8 d)

pub core-whole : (l : List Bool) (core₀ : List ℕ) (m : ℕ) → m ≡ octets_for (length l) → packs m l ++ drop m core₀ ≡ overwritten (pack l) core₀
unfolding pack
core-whole l core₀ m e =
    ap (λ n. packs n l ++ drop n core₀) e ∙ ap (λ n. packs (octets_for (length l)) l ++ drop n core₀) (sym (length-packs (octets_for (length l)) l))

-- ---- a table in parts of eight numbers, and the rest

-- part j begins at number 8 * j
get_or-eights : (k j : ℕ) (table : List ℕ) → j < k → get_or (first_chunks 8 k table) j [] ≡ take 8 (drop (8 * j) table)
get_or-eights zero j table h = absurd (omega arith)
get_or-eights (suc k) zero table h = refl
get_or-eights (suc k) (suc j) table h =
    get_or-eights k j (drop 8 table) (omega arith)
    ∙ ap (take 8) (drop-drop (8 * j) 8 table ∙ ap (λ n. drop n table) (let e : 8 + 8 * j ≡ 8 * suc j = omega arith in e))

module _ (table : List ℕ) (parts : List (List ℕ)) (front : parts ≡ first_chunks 8 (length table / 8) table) (j : ℕ) (h : j < length table / 8) where
  abbrev part : List ℕ
  part = get_or parts j []

  part-is : part ≡ take 8 (drop (8 * j) table)
  part-is = ap (λ ps. get_or ps j []) front ∙ get_or-eights (length table / 8) j table h

  pub length-part : length part ≡ 8
  length-part = ap length part-is ∙ length-take-le 8 (drop (8 * j) table) (omega (arith, length-drop (8 * j) table))

  pub part_below : (k : ℕ) → Permutes k table → (i : ℕ) → i < length part → get_or part i 0 < k
  part_below k p i l =
      let m = length-part in
      let e : get_or part i 0 ≡ get_or table (8 * j + i) 0 =
      ap (λ t. get_or t i 0) part-is ∙ get_or-take 8 (drop (8 * j) table) i 0 (omega arith) ∙ get_or-drop (8 * j) table i 0 in
      omega (arith, e, p.below (8 * j + i) (omega (arith, p.whole)))

  -- the bits that it names are octet j of the core
  pub part_octet : (s : List Bool) (v : ℕ) → v ≡ num (length part) (ordered part s) → v ≡ num 8 (drop (8 * j) (ordered table s))
  unfolding ordered
  part_octet s v e =
      let f : ℕ → Bool = λ n. codec_bit s (n + 1) in
      e ∙ ap (λ n. num n (ordered part s)) length-part ∙ ap (λ t. num 8 (ordered t s)) part-is
      ∙ ap (num 8) (sym (take-map f 8 (drop (8 * j) table)) ∙ ap (take 8) (sym (drop-map f (8 * j) table)))
      ∙ num-take 8 8 (drop (8 * j) (ordered table s)) (omega arith)

-- the bits that the rest names, shifted up, are the octet behind the w whole ones
pub rest_octet : (table rest : List ℕ) (s : List Bool) (w v : ℕ) → rest ≡ drop (length table / 8 * 8) table → length rest ≡ length table % 8 → w ≡ length table / 8
    → v ≡ num (length rest) (ordered rest s) → v * 2 ^ (8 - length rest) % 256 ≡ num 8 (drop (8 * w) (ordered table s))
unfolding ordered
rest_octet table rest s w v back left whole e =
    let f : ℕ → Bool = λ n. codec_bit s (n + 1) in
    let q : length table / 8 * 8 ≡ 8 * w = omega arith in
    let d : ordered rest s ≡ drop (8 * w) (ordered table s) =
    ap (λ t. ordered t s) (back ∙ ap (λ n. drop n table) q) ∙ sym (drop-map f (8 * w) table) in
    last_octet (ordered table s) w (length rest) v (omega (arith, length-ordered table s)) (omega arith) (e ∙ ap (num (length rest)) d)

-- ---- the row, bit by bit

-- a bit as a number
pub byte_bit : (b : Bool) → bool_byte b ≡ one_if b
byte_bit true = refl
byte_bit false = refl

-- the first j bits of d are where the table says, and what lies behind the row has stayed
pub record Scattered (table : List ℕ) (d : List Bool) (row₀ row : List ℕ) (j : ℕ) : Type 0 where
  pub size : length row ≡ length row₀
  pub placed : (i : ℕ) → i < j → get_or row (get_or table i 0) 0 ≡ one_if (get_or d i false)
  pub behind : (n : ℕ) → length table ≤ n → get_or row n 0 ≡ get_or row₀ n 0

module _ (table : List ℕ) (p : Permutes (length table) table) (d : List Bool) (row₀ : List ℕ) (room : length table ≤ length row₀) where
  -- no two places of the table are the same
  apart : (i j : ℕ) → i < j → j < length table → get_or table i 0 ≡ get_or table j 0 → ⊥
  apart i j h l e =
      let q : i ≡ j = sym (place_of_lem _ table p i (omega arith)) ∙ ap (λ n. place_of n table) e ∙ place_of_lem _ table p j l in
      omega arith

  pub scattered_more : (row : List ℕ) (j v : ℕ) → j < length table → v ≡ one_if (get_or d j false) → Scattered table d row₀ row j
      → Scattered table d row₀ (set row (get_or table j 0) v) (j + 1)
  scattered_more row j v h e s =
      let b = p.below j h in
      record {
        size = length-set row (get_or table j 0) v ∙ s.size;
        placed = λ i l.
            ⊎_elim
            (λ q. get_or-set_other row (get_or table j 0) (get_or table i 0) v 0 (λ same. apart i j q h same) ∙ s.placed i q)
            (λ q.
            let same : i ≡ j = omega arith in
            ap (λ n. get_or (set row (get_or table j 0) v) (get_or table n 0) 0) same
            ∙ get_or-set_same row (get_or table j 0) v 0 (omega (arith, s.size)) ∙ e ∙ ap (λ n. one_if (get_or d n false)) (sym same))
            (cases_lt i j);
        behind = λ n l. get_or-set_other row (get_or table j 0) n v 0 (λ same. omega arith) ∙ s.behind n l;
      }

  -- all bits are placed: the row of d in front of what was there
  pub scattered_whole : (row : List ℕ) → Scattered table d row₀ row (length table) → row ≡ overwritten (row_octets (unordered table d)) row₀
  scattered_whole row s =
      let w = row_octets (unordered table d) in
      let m : length w ≡ length table = length-map (unordered table d) one_if ∙ length-unordered table d in
      ext_get_or 0 row (w ++ drop (length w) row₀) (omega (arith, s.size, length-append w (drop (length w) row₀), length-drop (length w) row₀))
      (λ n l.
      ⊎_elim
      (λ q.
      let r = of_place _ table p n q in
      ap (λ i. get_or row i 0) (sym r.1) ∙ s.placed (place_of n table) r.0
      ∙ sym
      (get_or-append w (drop (length w) row₀) 0 n (omega arith)
      ∙ get_or_map one_if (unordered table d) n false 0 (omega (arith, length-unordered table d))
      ∙ ap one_if (get_or-unordered table d n q)))
      (λ q.
      let e : length w + (n - length w) ≡ n = omega arith in
      s.behind n q
      ∙ sym
      (ap (λ i. get_or (w ++ drop (length w) row₀) i 0) (sym e)
      ∙ get_or-append-add w (drop (length w) row₀) (n - length w) 0 ∙ get_or-drop (length w) row₀ (n - length w) 0 ∙ ap (λ i. get_or row₀ i 0) e))
      (cases_lt n (length table)))
