-- Facts of the table of types, by one test for each that antt computes over the types below 16. Assumes nothing.
use mathlib.Core.Path.{◌≡◌, refl}
use mathlib.Core.Bool.{Bool, true, not, ◌&&◌, ◌||◌}
use mathlib.Core.List.{List, [], ◌∷◌}
use mathlib.Core.Logic.{⊎_elim}
use Prim.Native.Nat.{ℕ, ◌+◌, ◌<◌, ◌≤◌}
use native.Mathlib.Omega.{arith}
use lib.Dec.{eqb, leb}
use borrow.Author.Tests.{leb-true, eqb-true}
use Rattle.bits.specs.Bits.{octets_for}
use Rattle.std.proofs.lemmas.Bool.{or_cases}
use Rattle.bits.proofs.Tests.{and_left, and_right, given, every_below_lem}
use Rattle.definitions.specs.Frames.{Format, if1, if2, storage, Row, row, type_table, listed, known, core_bits, class_a, octets, header_bits}

abbrev types_up_to : ℕ → List Row → Bool
types_up_to n [] = true
types_up_to n (row t k a x y z ∷ rows) = leb t n && types_up_to n rows

listed-up_to : (rows : List Row) (n t : ℕ) → types_up_to n rows ≡ true → listed rows t ≡ true → t ≤ n
listed-up_to [] n t h l = absurd (let z : ◌≡◌ {A = ℕ} 0 1 = cc in omega arith)
listed-up_to (row u k a x y z ∷ rows) n t h l =
    ⊎_elim (λ e. omega (arith, eqb-true t u e, leb-true u n (and_left _ _ h)))
    (λ r. listed-up_to rows n t (and_right (leb u n) _ h) r) (or_cases (eqb t u) (listed rows t) l)

pub known-below : (t : ℕ) → known t ≡ true → t < 16
unfolding known
known-below t k = omega (arith, listed-up_to type_table 15 t refl k)

-- a frame's octets hold its header and its core, and no octet more
pub record Sized (f : Format) (t : ℕ) : Type 0 where
  pub some-octet : 1 ≤ octets f t
  pub packed : octets f t ≡ octets_for (header_bits f t + core_bits t)

abbrev sized_test : Format → ℕ → Bool
sized_test f t = not (known t) || (leb 1 (octets f t) && eqb (octets f t) (octets_for (header_bits f t + core_bits t)))

sized_from : (f : Format) (t : ℕ) → sized_test f t ≡ true → known t ≡ true → Sized f t
sized_from f t h k =
    let g = given (known t) _ h k in
    record { some-octet = leb-true _ _ (and_left _ _ g); packed = eqb-true _ _ (and_right (leb 1 (octets f t)) _ g) }

pub sized : (f : Format) (t : ℕ) → known t ≡ true → Sized f t
unfolding known octets core_bits
sized if1 t k = sized_from if1 t (every_below_lem 16 (sized_test if1) refl t (known-below t k)) k
sized if2 t k = sized_from if2 t (every_below_lem 16 (sized_test if2) refl t (known-below t k)) k
sized storage t k = sized_from storage t (every_below_lem 16 (sized_test storage) refl t (known-below t k)) k

-- Class A lies within the core, and within the length for which the CRC's detection is proved
pub class_a_within : (t : ℕ) → known t ≡ true → (class_a t ≤ core_bits t) × (class_a t ≤ 72)
unfolding known class_a core_bits
class_a_within t k =
    let g = given (known t) _ (every_below_lem 16 (λ t. not (known t) || (leb (class_a t) (core_bits t) && leb (class_a t) 72)) refl t (known-below t k)) k in
    (leb-true _ _ (and_left _ _ g), leb-true _ _ (and_right (leb (class_a t) (core_bits t)) _ g))

-- the largest core
pub core-most : (t : ℕ) → known t ≡ true → core_bits t ≤ 477
unfolding known core_bits
core-most t k = leb-true _ _ (given (known t) _ (every_below_lem 16 (λ t. not (known t) || leb (core_bits t) 477) refl t (known-below t k)) k)
