-- What the code's table says of a type that is read or given: whether it is reserved, and how its octets are filled. Assumes nothing.
use mathlib.Core.Path.{◌≡◌, refl, ap}
use mathlib.Core.Bool.{Bool, true, false, not, ◌||◌, cond}
use mathlib.Core.List.{List}
use Prim.Native.Nat.{ℕ, ◌+◌, ◌*◌, ◌<◌, ◌≤◌}
use native.Mathlib.Omega.{arith}
use lib.Dec.{eqb, leb}
use borrow.Author.Tests.{leb-true, eqb-true}
use Rattle.bits.proofs.BitLaws.{num-lt}
use Rattle.bits.proofs.Tests.{given, every_below_lem}
use Rattle.definitions.specs.Outcome.{refused, ok, unless}
use Rattle.definitions.specs.Frames.{Format, if1, if2, storage, known, core_bits, octets, carries_modes, header_bits, type_in}
use Rattle.definitions.proofs.Tables.{known-below, sized}

-- a type without octets is reserved
reserved_test : Format → ℕ → Bool
reserved_test f t = cond (known t) (leb 1 (octets f t)) (eqb (octets f t) 0)

pub type-below : (f : Format) (bs : List Bool) → type_in f bs < 16
type-below f bs = num-lt 4 _

octets-known : (f : Format) (t : ℕ) → t < 16 → reserved_test f t ≡ true
unfolding reserved_test known octets
octets-known if1 t h = every_below_lem 16 (reserved_test if1) refl t h
octets-known if2 t h = every_below_lem 16 (reserved_test if2) refl t h
octets-known storage t h = every_below_lem 16 (reserved_test storage) refl t h

pub no_octets_reserved : (f : Format) (t : ℕ) → t < 16 → octets f t ≡ 0 → known t ≡ false
unfolding reserved_test
no_octets_reserved f t h e = go (known t) refl (octets-known f t h)
  where
    go : (b : Bool) → known t ≡ b → cond b (leb 1 (octets f t)) (eqb (octets f t) 0) ≡ true → known t ≡ false
    go true k p = absurd (omega (arith, leb-true 1 (octets f t) p))
    go false k p = k

pub octets_not_reserved : (f : Format) (t : ℕ) → t < 16 → (octets f t ≡ 0 → ⊥) → known t ≡ true
unfolding reserved_test
octets_not_reserved f t h n = go (known t) refl (octets-known f t h)
  where
    go : (b : Bool) → known t ≡ b → cond b (leb 1 (octets f t)) (eqb (octets f t) 0) ≡ true → known t ≡ true
    go true k p = k
    go false k p = absurd (n (eqb-true _ _ p))

-- a frame that carries modes is IF1's, of three octets and a core
pub modes_carried : (f : Format) (t : ℕ) → known t ≡ true → carries_modes f t ≡ true → (header_bits f t ≡ 24) × (4 ≤ octets f t)
unfolding known octets
modes_carried if1 t k c =
    let g = every_below_lem 16 (λ t. not (known t) || (not (leb t 9) || leb 4 (octets if1 t))) refl t (known-below t k) in
    (ap (λ b. cond b 24 8) c, leb-true _ _ (given (leb t 9) _ (given (known t) _ g k) c))
modes_carried if2 t k c = absurd (let z : ◌≡◌ {A = ℕ} 0 1 = cc in omega arith)
modes_carried storage t k c = absurd (let z : ◌≡◌ {A = ℕ} 0 1 = cc in omega arith)

-- the header and the core fit the octets, and leave less than one
pub room : (f : Format) (t : ℕ) → known t ≡ true → (header_bits f t + core_bits t ≤ 8 * octets f t) × (8 * octets f t < header_bits f t + core_bits t + 8)
room f t k = let p = (sized f t k).packed in (omega arith, omega arith)

pub sid-core : core_bits 9 ≡ 40
unfolding core_bits
sid-core = refl

pub sid-known : known 9 ≡ true
unfolding known
sid-known = refl

-- what `octets_known` says: a type that it takes is known and has those octets, and of another it answers refusal 2
pub type_taken : (k : Bool) (m n : ℕ) → ok n ≡ unless 2 k (ok m) → (k ≡ true) × (n ≡ m)
type_taken true m n e = (refl, cc)
type_taken false m n e = absurd cc

pub type_refused : (k : Bool) (m x : ℕ) → refused x ≡ unless 2 k (ok m) → (k ≡ false) × (x ≡ 2)
type_refused true m x e = absurd cc
type_refused false m x e = (refl, cc)
