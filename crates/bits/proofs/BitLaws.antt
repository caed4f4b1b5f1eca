-- Laws of octets as bits: `digits`, `num`, `bits` and `pack` undo one another. Assumes nothing.
use mathlib.Core.Path.{◌≡◌, refl, sym, ap, ap₂, ◌∙◌, subst}
use mathlib.Core.Bool.{Bool, true, false}
use mathlib.Core.List.{List, [], ◌∷◌, ◌++◌, append_assoc, append-nil}
use Prim.Native.Nat.{ℕ, zero, suc, ◌+◌, ◌-◌, ◌*◌, ◌/◌, ◌%◌, ◌^◌, ◌≤◌, ◌<◌}
use native.Mathlib.Nat.{zero-add, suc-add, add_comm, suc-sub-suc, zero-sub, sub-zero, zero-div, mod-lt, mod-mod, mod-eq_of_lt, pow-succ', le_of_suc-le-suc, not-suc-le-zero, le_refl, zero-lt-suc, zero-mul, add-zero, add_assoc}
use native.Mathlib.Numerals.{one-add}
use native.Mathlib.Omega.{arith}
use lib.ListN.{length, get_or, set, take, drop, replicate, length-append, take-append-drop, length-drop, drop_of_length-le, get_or-append, get_or-eq_default, replicate-append-replicate, length-replicate}
use lib.Seq.{take_at, drop_at, take-append-add, drop-append-add, take-append-le, drop-append-le, take-add, take-take, drop-drop, take-nil, drop-nil, drop-cons, set_split, get_or-drop, take_all, length_paste_head, length-take-le}
use lib.Dec.{eqb}
use mathlib.Core.Logic.{⊎_elim, ◌↔◌}
use lib.Arith.{digits_lt}
use lib.Pow.{pow_pos, shr-shr, mod-pow-add, mod-mod-pow, field, high, low}
use Rattle.std.proofs.lemmas.Bool.{cases_lt}
use Rattle.bits.specs.Bits.{odd, one_if, digits, num, bits, packs, pack, octets_for, Octets, copied}

-- ---- one digit

odd-mod : (n : ℕ) → odd (n % 2) ≡ odd n
unfolding odd
odd-mod n = ap (λ (m : ℕ). eqb m 1) (mod-mod n 2)

pub one_if-most : (b : Bool) → one_if b ≤ 1
one_if-most true = omega arith
one_if-most false = omega arith

odd_one_if : (b : Bool) → odd (one_if b) ≡ b
unfolding odd
odd_one_if true = refl
odd_one_if false = refl

one_if_odd : (n : ℕ) → one_if (odd n) ≡ n % 2
unfolding odd
one_if_odd n = go (n % 2) (mod-lt n (zero-lt-suc 1))
  where
    go : (m : ℕ) → m < 2 → one_if (eqb m 1) ≡ m
    go zero h = refl
    go (suc zero) h = refl
    go (suc (suc m)) h = absurd (not-suc-le-zero (le_of_suc-le-suc (le_of_suc-le-suc h)))

-- ---- digits

pub length_digits : (k n : ℕ) → length (digits k n) ≡ k
unfolding digits
length_digits zero n = refl
length_digits (suc k) n = ap suc (length_digits k n)

-- the one law: j + k digits are the j from k on, then the k low ones
pub digits-add : (j k n : ℕ) → digits (j + k) n ≡ digits j (n / 2 ^ k) ++ digits k n
unfolding digits
digits-add zero k n = ap (λ (m : ℕ). digits m n) (zero-add k)
digits-add (suc j) k n =
    ap (λ (m : ℕ). digits m n) (suc-add j k)
    ∙ ap₂ (λ (b : Bool) (l : List Bool). b ∷ l)
    (ap odd (ap (λ (m : ℕ). n / 2 ^ m) (add_comm j k) ∙ sym (shr-shr n k j)))
    (digits-add j k n)

pub take-digits : (j k n : ℕ) → take j (digits (j + k) n) ≡ digits j (n / 2 ^ k)
take-digits j k n = rw digits-add (take_at (digits j (n / 2 ^ k)) (digits k n) j (length_digits j (n / 2 ^ k)))

pub drop-digits : (j k n : ℕ) → drop j (digits (j + k) n) ≡ digits k n
drop-digits j k n = rw digits-add (drop_at (digits j (n / 2 ^ k)) (digits k n) j (length_digits j (n / 2 ^ k)))

-- only the k low digits count
pub digits_mod : (k n : ℕ) → digits k (n % 2 ^ k) ≡ digits k n
unfolding digits
digits_mod zero n = refl
digits_mod (suc k) n =
    ap₂ (λ (b : Bool) (l : List Bool). b ∷ l)
    (ap (λ (m : ℕ). odd (n % 2 ^ m / 2 ^ k)) (sym (one-add k)) ∙ ap odd (field n 1 k) ∙ odd-mod (n / 2 ^ k))
    (sym (digits_mod k (n % 2 ^ suc k))
    ∙ ap (λ (m : ℕ). digits k (n % 2 ^ m % 2 ^ k)) (sym (one-add k))
    ∙ ap (digits k) (mod-mod-pow n 1 k)
    ∙ digits_mod k n)

-- a high part does not count
pub digits_low : (k hi lo : ℕ) → lo < 2 ^ k → digits k (hi * 2 ^ k + lo) ≡ digits k lo
digits_low k hi lo h = sym (digits_mod k (hi * 2 ^ k + lo)) ∙ ap (digits k) (low hi k h)

pub digits-zero : (k : ℕ) → digits k 0 ≡ replicate k false
unfolding digits odd
digits-zero zero = refl
digits-zero (suc k) = ap₂ (λ (b : Bool) (l : List Bool). b ∷ l) (ap odd (zero-div (2 ^ k))) (digits-zero k)

-- ---- num

pub num-lt : (k : ℕ) (l : List Bool) → num k l < 2 ^ k
unfolding num
num-lt zero l = le_refl 1
num-lt (suc k) [] = pow_pos (suc k)
num-lt (suc k) (b ∷ l) = rw (pow-succ' 2 k) (digits_lt (omega (arith, one_if-most b)) (num-lt k l))

pub num-digits : (k n : ℕ) → num k (digits k n) ≡ n % 2 ^ k
unfolding num digits
num-digits zero n = sym (native.Mathlib.Nat.mod-one n)
num-digits (suc k) n =
    ap₂ (λ (a b : ℕ). a * 2 ^ k + b) (one_if_odd (n / 2 ^ k)) (num-digits k n)
    ∙ sym (mod-pow-add n 1 k)
    ∙ ap (λ (m : ℕ). n % 2 ^ m) (one-add k)

-- the digits of num are the bits read, filled up with false
pub digits-num : (k : ℕ) (l : List Bool) → digits k (num k l) ≡ take k l ++ replicate (k - length l) false
unfolding num digits
digits-num zero l = rw zero-sub
digits-num (suc k) [] = digits-zero (suc k) ∙ rw sub-zero
digits-num (suc k) (b ∷ l) =
    ap₂ (λ (c : Bool) (r : List Bool). c ∷ r)
    (ap odd (high (one_if b) k (num-lt k l)) ∙ odd_one_if b)
    (digits_low k (one_if b) (num k l) (num-lt k l) ∙ digits-num k l ∙ rw suc-sub-suc)

pub digits-num-le : (k : ℕ) (l : List Bool) → k ≤ length l → digits k (num k l) ≡ take k l
digits-num-le k l h =
    let z : k - length l ≡ 0 = omega arith in
    digits-num k l ∙ ap (λ (m : ℕ). take k l ++ replicate m false) z ∙ append-nil (take k l)

pub num-append : (k : ℕ) (l m : List Bool) → k ≤ length l → num k (l ++ m) ≡ num k l
unfolding num
num-append zero l m h = refl
num-append (suc k) [] m h = absurd (not-suc-le-zero h)
num-append (suc k) (b ∷ l) m h = ap (λ (n : ℕ). one_if b * 2 ^ k + n) (num-append k l m (le_of_suc-le-suc h))

pub num-take : (j k : ℕ) (l : List Bool) → j ≤ k → num j (take k l) ≡ num j l
unfolding num
num-take zero k l h = refl
num-take (suc j) zero l h = absurd (not-suc-le-zero h)
num-take (suc j) (suc k) [] h = refl
num-take (suc j) (suc k) (b ∷ l) h = ap (λ (n : ℕ). one_if b * 2 ^ j + n) (num-take j k l (le_of_suc-le-suc h))

-- bits past the end are false
pub num_zeros : (k m : ℕ) → num k (replicate m false) ≡ 0
unfolding num
num_zeros zero m = refl
num_zeros (suc k) zero = refl
num_zeros (suc k) (suc m) = ap (λ (n : ℕ). 0 * 2 ^ k + n) (num_zeros k m) ∙ rw zero-mul

pub num_pad : (k : ℕ) (l : List Bool) (m : ℕ) → num k (l ++ replicate m false) ≡ num k l
unfolding num
num_pad zero l m = refl
num_pad (suc k) [] m = num_zeros (suc k) m
num_pad (suc k) (b ∷ l) m = ap (λ (n : ℕ). one_if b * 2 ^ k + n) (num_pad k l m)

-- k bits are false where the number that they write is 0: spare and filling bits
pub num-zero : (k : ℕ) (l : List Bool) → k ≤ length l → (num k l ≡ 0) ↔ (take k l ≡ replicate k false)
num-zero k l h = (
  (λ e. sym (digits-num-le k l h) ∙ ap (digits k) e ∙ digits-zero k),
  (λ e. sym (num-take k k l (le_refl k)) ∙ ap (num k) e ∙ num_zeros k k),
)

-- two numbers side by side
pub digits-join : (j k hi lo : ℕ) → lo < 2 ^ k → digits (j + k) (hi * 2 ^ k + lo) ≡ digits j hi ++ digits k lo
digits-join j k hi lo h =
    digits-add j k (hi * 2 ^ k + lo) ∙ ap₂ (λ (x y : List Bool). x ++ y) (ap (digits j) (high hi k h)) (digits_low k hi lo h)

-- the field of k digits that lie below a others and above b others
pub digits_field : (a k b n : ℕ) → take k (drop a (digits (a + (k + b)) n)) ≡ digits k (n / 2 ^ b)
digits_field a k b n = ap (take k) (drop-digits a (k + b) n) ∙ take-digits k b n

-- ---- bits

pub length-bits : (s : List ℕ) → length (bits s) ≡ 8 * length s
unfolding bits
length-bits [] = refl
length-bits (x ∷ s) = length-append (digits 8 x) (bits s) ∙ omega (arith, length_digits 8 x, length-bits s)

pub bits-append : (s t : List ℕ) → bits (s ++ t) ≡ bits s ++ bits t
unfolding bits
bits-append [] t = refl
bits-append (x ∷ s) t = ap (λ (l : List Bool). digits 8 x ++ l) (bits-append s t) ∙ sym (append_assoc (digits 8 x) (bits s) (bits t))

octet_then : (x i : ℕ) → 8 * suc i ≡ length (digits 8 x) + 8 * i
octet_then x i = omega (arith, length_digits 8 x)

pub bits-take : (i : ℕ) (s : List ℕ) → bits (take i s) ≡ take (8 * i) (bits s)
unfolding bits
bits-take zero s = refl
bits-take (suc i) [] = sym (take-nil (8 * suc i))
bits-take (suc i) (x ∷ s) =
    ap (λ (l : List Bool). digits 8 x ++ l) (bits-take i s)
    ∙ sym (take-append-add (digits 8 x) (bits s) (8 * i))
    ∙ ap (λ (n : ℕ). take n (digits 8 x ++ bits s)) (sym (octet_then x i))

pub bits-drop : (i : ℕ) (s : List ℕ) → bits (drop i s) ≡ drop (8 * i) (bits s)
unfolding bits
bits-drop zero s = refl
bits-drop (suc i) [] = sym (drop-nil (8 * suc i))
bits-drop (suc i) (x ∷ s) =
    bits-drop i s
    ∙ sym (drop-append-add (digits 8 x) (bits s) (8 * i))
    ∙ ap (λ (n : ℕ). drop n (digits 8 x ++ bits s)) (sym (octet_then x i))

-- from octet i on
pub bits_from : (i : ℕ) (s : List ℕ) → i < length s → drop (8 * i) (bits s) ≡ digits 8 (get_or s i 0) ++ bits (drop (suc i) s)
unfolding bits
bits_from i s h = sym (bits-drop i s) ∙ ap bits (drop-cons s i 0 h)

-- a store
pub bits-set : (i : ℕ) (s : List ℕ) (y : ℕ) → i < length s
    → bits (set s i y) ≡ take (8 * i) (bits s) ++ (digits 8 y ++ bits (drop (suc i) s))
unfolding bits
bits-set i s y h =
    ap bits (set_split s i y h) ∙ bits-append (take i s) (y ∷ drop (suc i) s)
    ∙ ap (λ (l : List Bool). l ++ (digits 8 y ++ bits (drop (suc i) s))) (bits-take i s)

-- ---- pack

pub length-packs : (m : ℕ) (l : List Bool) → length (packs m l) ≡ m
unfolding packs
length-packs zero l = refl
length-packs (suc m) l = ap suc (length-packs m (drop 8 l))

pub length-pack : (l : List Bool) → length (pack l) ≡ (length l + 7) / 8
unfolding pack
length-pack l = length-packs ((length l + 7) / 8) l

packs-bits : (s : List ℕ) → Octets s → packs (length s) (bits s) ≡ s
unfolding bits packs
packs-bits [] o = refl
packs-bits (x ∷ s) o =
    let e : length (digits 8 x) ≡ 8 = length_digits 8 x in
    ap₂ (λ (a : ℕ) (l : List ℕ). a ∷ l)
    (num-append 8 (digits 8 x) (bits s) (omega arith) ∙ num-digits 8 x ∙ mod-eq_of_lt (o 0))
    (ap (packs (length s)) (drop_at (digits 8 x) (bits s) 8 e) ∙ packs-bits s (λ i. o (suc i)))

pub pack_bits : (s : List ℕ) → Octets s → pack (bits s) ≡ s
unfolding pack
pack_bits s o =
    let e : (length (bits s) + 7) / 8 ≡ length s = omega (arith, length-bits s) in
    ap (λ (m : ℕ). packs m (bits s)) e ∙ packs-bits s o

-- octets are known by their bits
pub bits-injective : (s t : List ℕ) → Octets s → Octets t → bits s ≡ bits t → s ≡ t
bits-injective s t os ot e = sym (pack_bits s os) ∙ ap pack e ∙ pack_bits t ot

zeros : ℕ → List Bool
zeros n = replicate n false

fill_step : (l : List Bool) (m : ℕ) → length l ≤ 8 * suc m
    → digits 8 (num 8 l) ++ (drop 8 l ++ zeros (8 * m - length (drop 8 l))) ≡ l ++ zeros (8 * suc m - length l)
unfolding zeros
fill_step l m h = ap (λ (x : List Bool). x ++ (drop 8 l ++ zeros (8 * m - length (drop 8 l)))) (digits-num 8 l) ∙ ⊎_elim short long (cases_lt (length l) 8)
  where
    short : length l < 8 → take 8 l ++ zeros (8 - length l) ++ (drop 8 l ++ zeros (8 * m - length (drop 8 l))) ≡ l ++ zeros (8 * suc m - length l)
    short s =
        let e : 8 - length l + 8 * m ≡ 8 * suc m - length l = omega arith in
        ap₂ (λ (x y : List Bool). x ++ zeros (8 - length l) ++ (y ++ zeros (8 * m - length y))) (take_all 8 l (omega arith)) (drop_of_length-le l {i = 8} (omega arith))
        ∙ append_assoc l (zeros (8 - length l)) (zeros (8 * m - 0))
        ∙ ap (λ (k : ℕ). l ++ (zeros (8 - length l) ++ zeros k)) (sub-zero (8 * m))
        ∙ ap (λ (x : List Bool). l ++ x) (replicate-append-replicate (8 - length l) (8 * m) false)
        ∙ ap (λ (k : ℕ). l ++ zeros k) e

    long : 8 ≤ length l → take 8 l ++ zeros (8 - length l) ++ (drop 8 l ++ zeros (8 * m - length (drop 8 l))) ≡ l ++ zeros (8 * suc m - length l)
    long s =
        let z : 8 - length l ≡ 0 = omega arith in
        let e : 8 * m - length (drop 8 l) ≡ 8 * suc m - length l = omega (arith, length-drop 8 l) in
        ap (λ (k : ℕ). take 8 l ++ zeros k ++ (drop 8 l ++ zeros (8 * m - length (drop 8 l)))) z
        ∙ ap (λ (x : List Bool). x ++ (drop 8 l ++ zeros (8 * m - length (drop 8 l)))) (append-nil (take 8 l))
        ∙ sym (append_assoc (take 8 l) (drop 8 l) (zeros (8 * m - length (drop 8 l))))
        ∙ ap₂ (λ (x : List Bool) (k : ℕ). x ++ zeros k) (take-append-drop 8 l) e

bits-packs : (m : ℕ) (l : List Bool) → length l ≤ 8 * m → bits (packs m l) ≡ l ++ replicate (8 * m - length l) false
unfolding packs bits zeros
bits-packs zero [] h = refl
bits-packs zero (b ∷ l) h = absurd (not-suc-le-zero h)
bits-packs (suc m) l h =
    ap (λ (x : List Bool). digits 8 (num 8 l) ++ x) (bits-packs m (drop 8 l) (omega (arith, length-drop 8 l)))
    ∙ fill_step l m h

-- packed bits are the bits, filled with false up to a multiple of 8
pub bits_pack : (l : List Bool) → bits (pack l) ≡ l ++ replicate (8 * ((length l + 7) / 8) - length l) false
unfolding pack
bits_pack l = bits-packs ((length l + 7) / 8) l (omega arith)

-- and come first
pub take_packed : (l : List Bool) (rest : List ℕ) → take (length l) (bits (pack l ++ rest)) ≡ l
take_packed l rest =
    let r : List Bool = replicate (8 * octets_for (length l) - length l) false in
    ap (take (length l)) (bits-append (pack l) rest ∙ ap (λ (b : List Bool). b ++ bits rest) (bits_pack l) ∙ append_assoc l r (bits rest))
    ∙ take_at l (r ++ bits rest) (length l) refl

packs-octets : (m : ℕ) (l : List Bool) → Octets (packs m l)
unfolding packs
packs-octets zero l i = zero-lt-suc 255
packs-octets (suc m) l zero = num-lt 8 l
packs-octets (suc m) l (suc i) = packs-octets m (drop 8 l) i

pub pack_octets : (l : List Bool) → Octets (pack l)
unfolding pack
pack_octets l = packs-octets ((length l + 7) / 8) l

-- octets that hold l and then false, and are as few as can be, are l packed: how a written frame is known
pub pack-unique : (d : List ℕ) (l : List Bool) (r : ℕ) → Octets d → length d ≡ (length l + 7) / 8 → bits d ≡ l ++ replicate r false → d ≡ pack l
pack-unique d l r o n e =
    let total : length (bits d) ≡ length l + r = ap length e ∙ length-append l (replicate r false) ∙ ap (λ (k : ℕ). length l + k) (length-replicate r false) in
    let pad : r ≡ 8 * ((length l + 7) / 8) - length l = omega (arith, length-bits d) in
    bits-injective d (pack l) o (pack_octets l) (e ∙ ap (λ (k : ℕ). l ++ replicate k false) pad ∙ sym (bits_pack l))

pub octets-drop : (m : ℕ) (s : List ℕ) → Octets s → Octets (drop m s)
octets-drop m s o i = subst (λ (k : ℕ). k < 256) (sym (get_or-drop m s i 0)) (o (m + i))

pub octets-take : (m : ℕ) (s : List ℕ) → Octets s → Octets (take m s)
octets-take zero s o i = zero-lt-suc 255
octets-take (suc m) [] o i = zero-lt-suc 255
octets-take (suc m) (x ∷ s) o zero = o 0
octets-take (suc m) (x ∷ s) o (suc i) = octets-take m s (λ j. o (suc j)) i

pub octets-append : (s t : List ℕ) → Octets s → Octets t → Octets (s ++ t)
octets-append [] t os ot i = ot i
octets-append (x ∷ s) t os ot zero = os 0
octets-append (x ∷ s) t os ot (suc i) = octets-append s t (λ k. os (suc k)) ot i

-- bits that fill whole octets are packed by themselves
pub pack-append : (l m : List Bool) (k : ℕ) → length l ≡ 8 * k → pack (l ++ m) ≡ pack l ++ pack m
pack-append l m k h =
    let none : 8 * octets_for (length l) - length l ≡ 0 = omega arith in
    let whole : bits (pack l) ≡ l = bits_pack l ∙ ap (λ (n : ℕ). l ++ replicate n false) none ∙ append-nil l in
    let n : length (l ++ m) ≡ length l + length m = length-append l m in
    let r : ℕ = 8 * octets_for (length m) - length m in
    sym (pack-unique (pack l ++ pack m) (l ++ m) r (octets-append (pack l) (pack m) (pack_octets l) (pack_octets m))
    (length-append (pack l) (pack m) ∙ omega (arith, length-pack l, length-pack m))
    (bits-append (pack l) (pack m) ∙ ap₂ (λ (x y : List Bool). x ++ y) whole (bits_pack m) ∙ sym (append_assoc l m (replicate r false))))

-- ---- a field of an octet of a list, read and written

-- of n digits and what follows them: the field of k digits that lie below a others and above b others
pub num_field : (n a k b x : ℕ) (l : List Bool) → a + (k + b) ≡ n → num k (drop a (digits n x ++ l)) ≡ x / 2 ^ b % 2 ^ k
num_field n a k b x l e =
    let d : length (digits n x) ≡ n = length_digits n x in
    ap (num k) (drop-append-le a (digits n x) l (omega arith))
    ∙ num-append k (drop a (digits n x)) l (omega (arith, length-drop a (digits n x)))
    ∙ sym (num-take k k (drop a (digits n x)) (le_refl k))
    ∙ ap (λ (m : ℕ). num k (take k (drop a (digits m x)))) (sym e)
    ∙ ap (num k) (digits_field a k b x)
    ∙ num-digits k (x / 2 ^ b)

-- of any octet of the list
pub octet_field : (i a k b : ℕ) (s : List ℕ) → i < length s → a + (k + b) ≡ 8
    → num k (drop (8 * i + a) (bits s)) ≡ get_or s i 0 / 2 ^ b % 2 ^ k
octet_field i a k b s h e =
    ap (num k) (sym (drop-drop a (8 * i) (bits s)) ∙ ap (drop a) (bits_from i s h))
    ∙ num_field 8 a k b (get_or s i 0) (bits (drop (suc i) s)) e

-- of any octet and the one after it, which is 0 past the end
pub window_field : (i a k b : ℕ) (s : List ℕ) → Octets s → i < length s → a ≤ 8 → a + (k + b) ≡ 16
    → num k (drop (8 * i + a) (bits s)) ≡ (get_or s i 0 * 2 ^ 8 + get_or s (suc i) 0) / 2 ^ b % 2 ^ k
unfolding bits
window_field i a k b s o h a8 e =
    ap (num k) (sym (drop-drop a (8 * i) (bits s)) ∙ ap (drop a) (bits_from i s h))
    ∙ ⊎_elim more last (cases_lt (suc i) (length s))
  where
    more : suc i < length s → num k (drop a (digits 8 (get_or s i 0) ++ bits (drop (suc i) s))) ≡ (get_or s i 0 * 2 ^ 8 + get_or s (suc i) 0) / 2 ^ b % 2 ^ k
    more m =
        ap (λ (l : List ℕ). num k (drop a (digits 8 (get_or s i 0) ++ bits l))) (drop-cons s (suc i) 0 m)
        ∙ ap (λ (l : List Bool). num k (drop a l)) (sym (append_assoc (digits 8 (get_or s i 0)) (digits 8 (get_or s (suc i) 0)) (bits (drop (suc (suc i)) s))))
        ∙ ap (λ (l : List Bool). num k (drop a (l ++ bits (drop (suc (suc i)) s)))) (sym (digits-join 8 8 (get_or s i 0) (get_or s (suc i) 0) (o (suc i))))
        ∙ num_field 16 a k b (get_or s i 0 * 2 ^ 8 + get_or s (suc i) 0) (bits (drop (suc (suc i)) s)) e

    last : length s ≤ suc i → num k (drop a (digits 8 (get_or s i 0) ++ bits (drop (suc i) s))) ≡ (get_or s i 0 * 2 ^ 8 + get_or s (suc i) 0) / 2 ^ b % 2 ^ k
    last m =
        let d : length (digits 8 (get_or s i 0)) ≡ 8 = length_digits 8 (get_or s i 0) in
        let z : get_or s (suc i) 0 ≡ 0 = get_or-eq_default s 0 {n = suc i} m in
        ap (λ (l : List ℕ). num k (drop a (digits 8 (get_or s i 0) ++ bits l))) (drop_of_length-le s {i = suc i} m)
        ∙ ap (λ (l : List Bool). num k (drop a l)) (append-nil (digits 8 (get_or s i 0)))
        ∙ sym (num_pad k (drop a (digits 8 (get_or s i 0))) 8)
        ∙ ap (num k) (sym (drop-append-le a (digits 8 (get_or s i 0)) (replicate 8 false) (omega arith)))
        ∙ ap (λ (l : List Bool). num k (drop a (digits 8 (get_or s i 0) ++ l))) (sym (digits-zero 8))
        ∙ ap (λ (l : List Bool). num k (drop a l)) (sym (digits-join 8 8 (get_or s i 0) 0 (pow_pos 8)) ∙ sym (append-nil (digits 16 (get_or s i 0 * 2 ^ 8 + 0))))
        ∙ num_field 16 a k b (get_or s i 0 * 2 ^ 8 + 0) [] e
        ∙ ap (λ (n : ℕ). (get_or s i 0 * 2 ^ 8 + n) / 2 ^ b % 2 ^ k) (sym z)

-- one bit
pub get_or-digits : (a b n : ℕ) → get_or (digits (a + suc b) n) a false ≡ odd (n / 2 ^ b)
unfolding digits
get_or-digits a b n =
    ap (λ (m : ℕ). get_or (digits (a + suc b) n) m false) (sym (add-zero a))
    ∙ sym (get_or-drop a (digits (a + suc b) n) 0 false)
    ∙ ap (λ (l : List Bool). get_or l 0 false) (drop-digits a (suc b) n)

pub bits-get_or : (i a b : ℕ) (s : List ℕ) → i < length s → a + suc b ≡ 8 → get_or (bits s) (8 * i + a) false ≡ odd (get_or s i 0 / 2 ^ b)
bits-get_or i a b s h e =
    let d : length (digits 8 (get_or s i 0)) ≡ 8 = length_digits 8 (get_or s i 0) in
    sym (get_or-drop (8 * i) (bits s) a false)
    ∙ ap (λ (l : List Bool). get_or l a false) (bits_from i s h)
    ∙ get_or-append (digits 8 (get_or s i 0)) (bits (drop (suc i) s)) false a (omega arith)
    ∙ ap (λ (m : ℕ). get_or (digits m (get_or s i 0)) a false) (sym e)
    ∙ get_or-digits a b (get_or s i 0)

-- an octet is stored that differs from the old one in the k bits after the first a, and has the digits of v there
pub bits_put : (i a k : ℕ) (s : List ℕ) (y : ℕ) (v : List Bool) → i < length s → a + k ≤ 8
    → digits 8 y ≡ take a (digits 8 (get_or s i 0)) ++ (v ++ drop (a + k) (digits 8 (get_or s i 0)))
    → bits (set s i y) ≡ take (8 * i + a) (bits s) ++ (v ++ drop (8 * i + a + k) (bits s))
bits_put i a k s y v h f e =
    let old : List Bool = digits 8 (get_or s i 0) in
    let rest : List Bool = bits (drop (suc i) s) in
    let l8 : length (digits 8 (get_or s i 0)) ≡ 8 = length_digits 8 (get_or s i 0) in
    let front : take (8 * i + a) (bits s) ≡ take (8 * i) (bits s) ++ take a (digits 8 (get_or s i 0)) =
    take-add (8 * i) a (bits s)
    ∙ ap (λ (x : List Bool). take (8 * i) (bits s) ++ take a x) (bits_from i s h)
    ∙ ap (λ (x : List Bool). take (8 * i) (bits s) ++ x) (take-append-le a old rest (omega arith)) in
    let back : drop (8 * i + a + k) (bits s) ≡ drop (a + k) (digits 8 (get_or s i 0)) ++ bits (drop (suc i) s) =
    ap (λ (n : ℕ). drop n (bits s)) (add_assoc (8 * i) a k)
    ∙ sym (drop-drop (a + k) (8 * i) (bits s))
    ∙ ap (drop (a + k)) (bits_from i s h)
    ∙ drop-append-le (a + k) old rest (omega arith) in
    bits-set i s y h
    ∙ ap (λ (x : List Bool). take (8 * i) (bits s) ++ (x ++ rest)) e
    ∙ rw (front, back) (simp append_assoc)

-- ---- a copy that grows

pub copied_more : (d x : List Bool) (at : ℕ) (t : List Bool) (m k : ℕ) → at + m + k ≤ length d → m + k ≤ length t
    → x ≡ copied d at t m
    → take (at + m) x ++ (take k (drop m t) ++ drop (at + m + k) x) ≡ copied d at t (m + k)
copied_more d x at t m k hd ht e =
    let p : List Bool = take at d ++ take m t in
    let r : List Bool = drop (at + m) d in
    let lp : length (take at d ++ take m t) ≡ at + m = length_paste_head d at t m (omega arith) (omega arith) in
    let ex : x ≡ take at d ++ take m t ++ drop (at + m) d = e ∙ sym (append_assoc (take at d) (take m t) r) in
    let front : take (at + m) x ≡ take at d ++ take m t = ap (take (at + m)) ex ∙ take_at p r (at + m) lp in
    let back : drop (at + m + k) x ≡ drop (at + (m + k)) d =
    sym (drop-drop k (at + m) x) ∙ ap (λ (y : List Bool). drop k (drop (at + m) y)) ex
    ∙ ap (drop k) (drop_at p r (at + m) lp) ∙ drop-drop k (at + m) d ∙ rw add_assoc in
    rw (front, back) (append_assoc (take at d) (take m t) _
    ∙ ap (λ (y : List Bool). take at d ++ y)
    (sym (append_assoc (take m t) (take k (drop m t)) (drop (at + (m + k)) d))
    ∙ ap (λ (y : List Bool). y ++ drop (at + (m + k)) d) (sym (take-add m k t))))

-- what follows a copy of k bits is as it was
pub past : (d : List Bool) (at : ℕ) (s : List Bool) (k n : ℕ) (x : List Bool) → at + k ≤ length d → k ≤ length s → k ≤ n
    → x ≡ copied d at s k → drop (at + n) x ≡ drop (at + n) d
past d at s k n x hd hs h e =
    let p : List Bool = take at d ++ take k s in
    let r : List Bool = drop (at + k) d in
    let lp : length (take at d ++ take k s) ≡ at + k = length_paste_head d at s k (omega arith) hs in
    let ex : x ≡ take at d ++ take k s ++ drop (at + k) d = e ∙ sym (append_assoc (take at d) (take k s) r) in
    let more : at + k + (n - k) ≡ at + n = omega arith in
    ap (λ (i : ℕ). drop i x) (sym more) ∙ sym (drop-drop (n - k) (at + k) x)
    ∙ ap (drop (n - k)) (ap (drop (at + k)) ex ∙ drop_at p r (at + k) lp)
    ∙ drop-drop (n - k) (at + k) d ∙ ap (λ (i : ℕ). drop i d) more

-- and it begins with what was in front of them, and them
pub front : (d : List Bool) (at : ℕ) (s : List Bool) (k : ℕ) (x : List Bool) → at + k ≤ length d → k ≤ length s
    → x ≡ copied d at s k → take (at + k) x ≡ take at d ++ take k s
front d at s k x hd hs e =
    ap (take (at + k)) (e ∙ sym (append_assoc (take at d) (take k s) (drop (at + k) d)))
    ∙ take_at (take at d ++ take k s) (drop (at + k) d) (at + k) (length_paste_head d at s k (omega arith) hs)

-- octets whose bits are l, filled up, and then those of d₀
pub packed_is : (d₀ d : List ℕ) (l : List Bool) (e : ℕ) → Octets d₀ → Octets d → length l ≡ e
    → bits d ≡ l ++ (replicate (8 * octets_for e - e) false ++ drop (8 * octets_for e) (bits d₀))
    → d ≡ pack l ++ drop (octets_for e) d₀
packed_is d₀ d l e o₀ o ll h =
    let m : ℕ = octets_for e in
    let k : ℕ = 8 * octets_for e - e in
    bits-injective d (pack l ++ drop m d₀) o (octets-append (pack l) (drop m d₀) (pack_octets l) (octets-drop m d₀ o₀))
    (h ∙ sym (append_assoc l (replicate k false) (drop (8 * m) (bits d₀)))
    ∙ ap₂ (λ (x y : List Bool). x ++ y)
    (ap (λ (i : ℕ). l ++ replicate (8 * octets_for i - i) false) (sym ll) ∙ sym (bits_pack l)) (sym (bits-drop m d₀))
    ∙ sym (bits-append (pack l) (drop m d₀)))

-- a run of bits put in place and filled up, as octets: d₁ has the run, and d₂ also the filling
pub put_is : (src d₀ d₁ d₂ : List ℕ) (from n at : ℕ) → Octets d₀ → Octets d₂ → from + n ≤ 8 * length src → at + n ≤ 8 * length d₀
    → bits d₁ ≡ copied (bits d₀) at (drop from (bits src)) n
    → bits d₂ ≡ take (at + n) (bits d₁) ++ (replicate (8 * octets_for (at + n) - (at + n)) false ++ drop (8 * octets_for (at + n)) (bits d₁))
    → d₂ ≡ pack (take at (bits d₀) ++ take n (drop from (bits src))) ++ drop (octets_for (at + n)) d₀
put_is src d₀ d₁ d₂ from n at o₀ o₂ hs hd e₁ e₂ =
    let s : List Bool = drop from (bits src) in
    let k : ℕ = 8 * octets_for (at + n) - (at + n) in
    let room : at + n ≤ length (bits d₀) = omega (arith, length-bits d₀) in
    let enough : n ≤ length (drop from (bits src)) = omega (arith, length-drop from (bits src), length-bits src) in
    let all : at + (n + (8 * octets_for (at + n) - (at + n))) ≡ 8 * octets_for (at + n) = omega arith in
    let back : drop (8 * octets_for (at + n)) (bits d₁) ≡ drop (8 * octets_for (at + n)) (bits d₀) =
    ap (λ (i : ℕ). drop i (bits d₁)) (sym all)
    ∙ past (bits d₀) at s n (n + k) (bits d₁) room enough (omega arith) e₁ ∙ ap (λ (i : ℕ). drop i (bits d₀)) all in
    packed_is d₀ d₂ (take at (bits d₀) ++ take n s) (at + n) o₀ o₂ (length_paste_head (bits d₀) at s n (omega arith) enough)
    (e₂ ∙ ap₂ (λ (x y : List Bool). x ++ (replicate k false ++ y)) (front (bits d₀) at s n (bits d₁) room enough e₁) back)

-- the same where d₁ has the run but for its last k bits, which begin octet j, and d₂ those too, filled up
pub put_last_is : (src d₀ d₁ d₂ : List ℕ) (from n at done k j p : ℕ) → Octets d₀ → Octets d₂ → from + n ≤ 8 * length src → at + n ≤ 8 * length d₀
    → done + k ≡ n → at + done ≡ 8 * j → p ≡ from + done
    → bits d₁ ≡ copied (bits d₀) at (drop from (bits src)) done
    → bits d₂ ≡ take (8 * j) (bits d₁) ++ (take k (drop p (bits src)) ++ (replicate (8 * octets_for k - k) false ++ drop (8 * (j + octets_for k)) (bits d₁)))
    → d₂ ≡ pack (take at (bits d₀) ++ take n (drop from (bits src))) ++ drop (octets_for (at + n)) d₀
put_last_is src d₀ d₁ d₂ from n at done k j p o₀ o₂ hs hd ek ej ep e₁ e₂ =
    let s : List Bool = drop from (bits src) in
    let x : List Bool = take at (bits d₀) in
    let room : at + n ≤ length (bits d₀) = omega (arith, length-bits d₀) in
    let enough : n ≤ length (drop from (bits src)) = omega (arith, length-drop from (bits src), length-bits src) in
    let run : take (8 * j) (bits d₁) ++ take k (drop p (bits src)) ≡ take at (bits d₀) ++ take n (drop from (bits src)) =
    ap₂ (λ (b c : List Bool). b ++ c)
    (ap (λ (i : ℕ). take i (bits d₁)) (sym ej) ∙ front (bits d₀) at s done (bits d₁) (omega arith) (omega arith) e₁)
    (ap (λ (i : ℕ). take k (drop i (bits src))) ep ∙ ap (take k) (sym (drop-drop done from (bits src))))
    ∙ append_assoc x (take done s) (take k (drop done s))
    ∙ ap (λ (q : List Bool). x ++ q) (sym (take-add done k s) ∙ ap (λ (i : ℕ). take i s) ek) in
    let fill : 8 * octets_for k - k ≡ 8 * octets_for (at + n) - (at + n) = omega arith in
    let place : 8 * (j + octets_for k) ≡ at + (done + 8 * octets_for k) = omega arith in
    let all : at + (done + 8 * octets_for k) ≡ 8 * octets_for (at + n) = omega arith in
    let back : drop (8 * (j + octets_for k)) (bits d₁) ≡ drop (8 * octets_for (at + n)) (bits d₀) =
    ap (λ (i : ℕ). drop i (bits d₁)) place
    ∙ past (bits d₀) at s done (done + 8 * octets_for k) (bits d₁) (omega arith) (omega arith) (omega arith) e₁
    ∙ ap (λ (i : ℕ). drop i (bits d₀)) all in
    packed_is d₀ d₂ (x ++ take n s) (at + n) o₀ o₂ (length_paste_head (bits d₀) at s n (omega arith) enough)
    (e₂ ∙ sym (append_assoc (take (8 * j) (bits d₁)) (take k (drop p (bits src))) (replicate (8 * octets_for k - k) false ++ drop (8 * (j + octets_for k)) (bits d₁)))
    ∙ ap₂ (λ (b c : List Bool). b ++ c) run (ap₂ (λ (i : ℕ) (q : List Bool). replicate i false ++ q) fill back))

-- the octet that holds the last k bits of a run
module _ (src d : List ℕ) (from k j : ℕ) where
  abbrev pub Last : List ℕ → Type 0
  Last d' = bits d' ≡ take (8 * j) (bits d) ++ (take k (drop from (bits src)) ++ (replicate (8 * octets_for k - k) false ++ drop (8 * (j + octets_for k)) (bits d)))

  take_pad : (i n : ℕ) (l r : List Bool) → i ≤ n → i ≤ length l → take i (take n l ++ r) ≡ take i l
  take_pad zero n l r h g = refl
  take_pad (suc i) zero l r h g = absurd (not-suc-le-zero h)
  take_pad (suc i) (suc n) [] r h g = absurd (not-suc-le-zero g)
  take_pad (suc i) (suc n) (b ∷ l) r h g = ap (λ (x : List Bool). b ∷ x) (take_pad i n l r (le_of_suc-le-suc h) (le_of_suc-le-suc g))

  pub last_octet : (f y : ℕ) → 0 < k → k < 8 → from + k ≤ 8 * length src → 8 * j + k ≤ 8 * length d
      → f ≡ num 8 (drop from (bits src))
      → digits 8 y ≡ take k (digits 8 f) ++ (digits (8 - k) 0 ++ drop (k + (8 - k)) (digits 8 f))
      → Last (set d j y)
  last_octet f y h0 h8 hs hd ef ey =
      let s : List Bool = drop from (bits src) in
      let enough : k ≤ length (drop from (bits src)) = omega (arith, length-drop from (bits src), length-bits src) in
      let few : 8 - k ≡ 8 * octets_for k - k = omega arith in
      let place : 8 * suc j ≡ 8 * (j + octets_for k) = omega arith in
      let old : take k (digits 8 f) ≡ take k (drop from (bits src)) =
      ap (λ (i : ℕ). take k (digits 8 i)) ef ∙ ap (take k) (digits-num 8 s) ∙ take_pad k 8 s (replicate (8 - length s) false) (omega arith) enough in
      let none : drop (k + (8 - k)) (digits 8 f) ≡ [] = drop_of_length-le (digits 8 f) {i = k + (8 - k)} (omega (arith, length_digits 8 f)) in
      let new : digits 8 y ≡ take k (drop from (bits src)) ++ replicate (8 * octets_for k - k) false =
      ey ∙ ap₂ (λ (p q : List Bool). p ++ (digits (8 - k) 0 ++ q)) old none
      ∙ ap (λ (q : List Bool). take k s ++ q) (append-nil (digits (8 - k) 0) ∙ digits-zero (8 - k) ∙ ap (λ (i : ℕ). replicate i false) few) in
      bits-set j d y (omega arith)
      ∙ ap₂ (λ (p q : List Bool). take (8 * j) (bits d) ++ (p ++ q)) new (bits-drop (suc j) d ∙ ap (λ (i : ℕ). drop i (bits d)) place)
      ∙ ap (λ (q : List Bool). take (8 * j) (bits d) ++ q) (append_assoc (take k s) (replicate (8 * octets_for k - k) false) (drop (8 * (j + octets_for k)) (bits d)))

-- ---- octets of a run of bits, written from the front on

-- d has the first h octets of s; with m of them put at octet j, where j ≤ h, it has the first j + m
pub octets_next : (s : List Bool) (d x r : List ℕ) (h j m n : ℕ) → j ≤ h → j ≤ length d → n ≡ j + m → length x ≡ m
    → bits x ≡ take (8 * m) (drop (8 * j) s) → take (8 * h) (bits d) ≡ take (8 * h) s → take (8 * n) (bits (take j d ++ (x ++ r))) ≡ take (8 * n) s
octets_next s d x r h j m n hj hd en lx ex e =
    let long : length (bits (take j d) ++ bits x) ≡ 8 * n =
    omega (arith, length-append (bits (take j d)) (bits x), length-bits (take j d), length-bits x, length-take-le j d hd) in
    let all : 8 * j + 8 * m ≡ 8 * n = omega arith in
    ap (take (8 * n)) (bits-append (take j d) (x ++ r) ∙ ap (λ (l : List Bool). bits (take j d) ++ l) (bits-append x r) ∙ sym (append_assoc (bits (take j d)) (bits x) (bits r)))
    ∙ take_at (bits (take j d) ++ bits x) (bits r) (8 * n) long
    ∙ ap₂ (λ (l m : List Bool). l ++ m)
    (bits-take j d ∙ sym (take-take (8 * j) (8 * h) (bits d) (omega arith)) ∙ ap (take (8 * j)) e ∙ take-take (8 * j) (8 * h) s (omega arith)) ex
    ∙ sym (take-add (8 * j) (8 * m) s) ∙ ap (λ (k : ℕ). take k s) all

-- one octet more
pub octet_next : (s : List Bool) (d : List ℕ) (t y : ℕ) → t < length d → 8 * t + 8 ≤ length s → y ≡ num 8 (drop (8 * t) s)
    → take (8 * t) (bits d) ≡ take (8 * t) s → take (8 * (t + 1)) (bits (set d t y)) ≡ take (8 * (t + 1)) s
unfolding bits
octet_next s d t y h hs ey e =
    let one : bits (y ∷ []) ≡ take 8 (drop (8 * t) s) =
    append-nil (digits 8 y) ∙ ap (digits 8) ey ∙ digits-num-le 8 (drop (8 * t) s) (omega (arith, length-drop (8 * t) s)) in
    ap (λ (l : List ℕ). take (8 * (t + 1)) (bits l)) (set_split d t y h)
    ∙ octets_next s d (y ∷ []) (drop (suc t) d) t t 1 (t + 1) (le_refl t) (omega arith) refl refl one e

-- ---- a number written in front, and read again

pub num_front : (k n : ℕ) (l : List Bool) → n < 2 ^ k → num k (digits k n ++ l) ≡ n
num_front k n l h = num-append k (digits k n) l (omega (arith, length_digits k n)) ∙ num-digits k n ∙ mod-eq_of_lt h

-- k bits that are 0 come first
pub num-clear : (k : ℕ) (l : List Bool) → num k (replicate k false ++ l) ≡ 0
num-clear k l = num-append k (replicate k false) l (omega (arith, length-replicate k false)) ∙ num_zeros k k

-- a field within the first m bits
pub num-within : (k a m : ℕ) (l : List Bool) → a + k ≤ m → num k (drop a (take m l)) ≡ num k (drop a l)
num-within k zero m l h = num-take k m l (omega arith)
num-within k (suc a) zero l h = absurd (omega arith)
num-within k (suc a) (suc m) [] h = refl
num-within k (suc a) (suc m) (b ∷ l) h = num-within k a m l (omega arith)
