-- The code's table has document 01's numbers, and none above a bound: for each column one test that antt computes. Assumes nothing.
use mathlib.Core.Path.{◌≡◌, refl}
use mathlib.Core.Bool.{Bool, true, ◌&&◌}
use Prim.Native.Nat.{ℕ, ◌<◌, ◌≤◌}
use lib.Dec.{eqb, leb}
use lib.ListN.{get_or}
use borrow.Author.Tests.{leb-true, eqb-true}
use Rattle.bits.proofs.Tests.{and_left, and_right, every_below, every_below_lem}
use Rattle.definitions.specs.Frames.{if1, if2, storage, core_bits, class_a, octets, fill_bits}
use Rattle.frame.specs.declared.table.TheConstants.{CORE_BITS, CLASS_A, IF1, IF2, STORAGE, FILL, IF2_FILL}

module _ (here there : ℕ → ℕ) (most : ℕ) where
  same : ℕ → Bool
  same t = eqb (here t) (there t) && leb (here t) most

  column : every_below 16 same ≡ true → (t : ℕ) → t < 16 → (here t ≡ there t) × (here t ≤ most)
  unfolding same
  column e t h =
      let p = every_below_lem 16 same e t h in
      (eqb-true _ _ (and_left _ _ p), leb-true _ _ (and_right (eqb (here t) (there t)) _ p))

pub core_column : (t : ℕ) → t < 16 → (get_or CORE_BITS t 0 ≡ core_bits t) × (get_or CORE_BITS t 0 ≤ 477)
unfolding same core_bits
core_column = column (λ t. get_or CORE_BITS t 0) core_bits 477 refl

pub class_column : (t : ℕ) → t < 16 → (get_or CLASS_A t 0 ≡ class_a t) × (get_or CLASS_A t 0 ≤ 477)
unfolding same class_a
class_column = column (λ t. get_or CLASS_A t 0) class_a 477 refl

pub if1_column : (t : ℕ) → t < 16 → (get_or IF1 t 0 ≡ octets if1 t) × (get_or IF1 t 0 ≤ 477)
unfolding same octets
if1_column = column (λ t. get_or IF1 t 0) (octets if1) 477 refl

pub if2_column : (t : ℕ) → t < 16 → (get_or IF2 t 0 ≡ octets if2 t) × (get_or IF2 t 0 ≤ 477)
unfolding same octets
if2_column = column (λ t. get_or IF2 t 0) (octets if2) 477 refl

pub storage_column : (t : ℕ) → t < 16 → (get_or STORAGE t 0 ≡ octets storage t) × (get_or STORAGE t 0 ≤ 477)
unfolding same octets
storage_column = column (λ t. get_or STORAGE t 0) (octets storage) 477 refl

pub fill_column : (t : ℕ) → t < 16 → (get_or FILL t 0 ≡ fill_bits if1 t) × (get_or FILL t 0 ≤ 7)
unfolding same core_bits octets
fill_column = column (λ t. get_or FILL t 0) (fill_bits if1) 7 refl

pub storage_fill_column : (t : ℕ) → t < 16 → (get_or FILL t 0 ≡ fill_bits storage t) × (get_or FILL t 0 ≤ 7)
unfolding same core_bits octets
storage_fill_column = column (λ t. get_or FILL t 0) (fill_bits storage) 7 refl

pub if2_fill_column : (t : ℕ) → t < 16 → (get_or IF2_FILL t 0 ≡ fill_bits if2 t) × (get_or IF2_FILL t 0 ≤ 7)
unfolding same core_bits octets
if2_fill_column = column (λ t. get_or IF2_FILL t 0) (fill_bits if2) 7 refl
