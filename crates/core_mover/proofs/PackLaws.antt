-- Octets as windows of a list of bits: `packs` under zeros, one octet more, and what a copy gives. Assumes nothing.
use mathlib.Core.Path.{◌≡◌, refl, sym, ap, ap₂, ◌∙◌}
use mathlib.Core.Bool.{Bool, false}
use mathlib.Core.List.{List, [], ◌∷◌, ◌++◌}
use Prim.Native.Nat.{ℕ, zero, suc, ◌+◌, ◌-◌, ◌*◌, ◌%◌, ◌^◌, ◌<◌, ◌≤◌}
use native.Mathlib.Omega.{arith}
use lib.Dec.{eqb}
use lib.ListN.{length, take, drop, replicate, length-drop}
use lib.Seq.{drop-drop, take-add}
use borrow.Author.Tests.{eqb-true}
use Rattle.bits.specs.Bits.{odd, one_if, digits, num, bits, packs, Octets}
use Rattle.bits.proofs.BitLaws.{num-lt, digits-num-le, bits-injective}
use Rattle.bits.proofs.Tests.{every_below, every_below_lem}

-- ---- under zeros

drop_zeros : (j z : ℕ) (r : List Bool) → j ≤ z → drop j (replicate z false ++ r) ≡ replicate (z - j) false ++ r
drop_zeros zero z r h = ap (λ k. replicate k false ++ r) (let e : z ≡ z - 0 = omega arith in e)
drop_zeros (suc j) zero r h = absurd (omega arith)
drop_zeros (suc j) (suc z) r h = drop_zeros j z r (omega arith) ∙ ap (λ k. replicate k false ++ r) (let e : z - j ≡ suc z - suc j = omega arith in e)

num_under : (k z : ℕ) (r : List Bool) → k ≤ z → num k (replicate z false ++ r) ≡ 0
unfolding num
num_under zero z r h = refl
num_under (suc k) zero r h = absurd (omega arith)
num_under (suc k) (suc z) r h = omega (arith, num_under k z r (omega arith))

-- the number of a field that reaches into the zeros
num_padded : (k : ℕ) (w : List Bool) (z : ℕ) (r : List Bool) → k ≤ length w + z → num k (w ++ (replicate z false ++ r)) ≡ num k w
unfolding num
num_padded zero w z r h = refl
num_padded (suc k) [] z r h = num_under (suc k) z r (omega arith)
num_padded (suc k) (b ∷ w) z r h = ap (λ n. one_if b * 2 ^ k + n) (num_padded k w z r (omega arith))

pub drop_padded : (j : ℕ) (w : List Bool) (z : ℕ) (r : List Bool) → j ≤ length w + z
    → drop j (w ++ (replicate z false ++ r)) ≡ drop j w ++ (replicate (z - (j - length w)) false ++ r)
drop_padded zero w z r h = ap (λ k. w ++ (replicate k false ++ r)) (let e : z ≡ z - (0 - length w) = omega arith in e)
drop_padded (suc j) [] z r h = drop_zeros (suc j) z r (omega arith) ∙ ap (λ k. replicate k false ++ r) (let e : z - suc j ≡ z - (suc j - 0) = omega arith in e)
drop_padded (suc j) (b ∷ w) z r h = drop_padded j w z r (omega arith) ∙ ap (λ k. drop j w ++ (replicate k false ++ r)) (let e : z - (j - length w) ≡ z - (suc j - suc (length w)) = omega arith in e)

pub packs_padded : (c : ℕ) (w : List Bool) (z : ℕ) (r : List Bool) → 8 * c ≤ length w + z → packs c (w ++ (replicate z false ++ r)) ≡ packs c w
unfolding packs
packs_padded zero w z r h = refl
packs_padded (suc c) w z r h =
    ap₂ ◌∷◌ (num_padded 8 w z r (omega arith))
    (ap (packs c) (drop_padded 8 w z r (omega arith)) ∙ packs_padded c (drop 8 w) (z - (8 - length w)) r (omega (arith, length-drop 8 w)))

-- one octet more
pub packs_more : (c : ℕ) (l : List Bool) → packs (c + 1) l ≡ packs c l ++ (num 8 (drop (8 * c) l) ∷ [])
unfolding packs
packs_more zero l = refl
packs_more (suc c) l =
    ap (λ k. packs k l) (let z : suc c + 1 ≡ suc (c + 1) = omega arith in z)
    ∙ ap (λ t. num 8 l ∷ t)
    (packs_more c (drop 8 l)
    ∙ ap (λ v. packs c (drop 8 l) ++ (num 8 v ∷ [])) (drop-drop (8 * c) 8 l ∙ ap (λ k. drop k l) (let z : 8 + 8 * c ≡ 8 * suc c = omega arith in z)))

-- ---- after a copy

bits-packs : (c : ℕ) (l : List Bool) → 8 * c ≤ length l → bits (packs c l) ≡ take (8 * c) l
unfolding packs bits
bits-packs zero l h = refl
bits-packs (suc c) l h =
    ap₂ ◌++◌ (digits-num-le 8 l (omega arith)) (bits-packs c (drop 8 l) (omega (arith, length-drop 8 l)))
    ∙ sym (take-add 8 (8 * c) l) ∙ ap (λ k. take k l) (let z : 8 + 8 * c ≡ 8 * suc c = omega arith in z)

octets-packs : (c : ℕ) (l : List Bool) → Octets (packs c l)
unfolding packs
octets-packs zero l i = omega arith
octets-packs (suc c) l zero = num-lt 8 l
octets-packs (suc c) l (suc i) = octets-packs c (drop 8 l) i

pub octets_are : (d : List ℕ) (c : ℕ) (t : List Bool) → Octets d → 8 * c ≤ length t → bits d ≡ take (8 * c) t → d ≡ packs c t
octets_are d c t o h e = bits-injective d (packs c t) o (octets-packs c t) (e ∙ sym (bits-packs c t h))

-- ---- a shifted octet

shift_test : ℕ → ℕ → Bool
shift_test a x = eqb (x * 2 ^ a % 256) (num 8 (drop a (digits 8 x)))

shifts_test : ℕ → Bool
shifts_test a = every_below 256 (shift_test a)

pub shifts : (a x : ℕ) → a < 8 → x < 256 → x * 2 ^ a % 256 ≡ num 8 (drop a (digits 8 x))
unfolding shifts_test shift_test odd digits num
shifts a x ha hx = eqb-true _ _ (every_below_lem 256 (shift_test a) (every_below_lem 8 shifts_test refl a ha) x hx)
