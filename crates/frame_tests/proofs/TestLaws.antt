-- What the tests compute is what the definition asks. `no_crc` is also for frame_reader. Assumes nothing.
use mathlib.Core.Path.{◌≡◌, refl, sym, ap, ap₂, ◌∙◌}
use mathlib.Core.Bool.{Bool, true, false, not, ◌&&◌, ◌||◌, beq}
use mathlib.Core.List.{List}
use Prim.Native.Nat.{ℕ, ◌+◌, ◌-◌, ◌*◌, ◌/◌, ◌%◌, ◌^◌, ◌<◌, ◌≤◌}
use native.Mathlib.Omega.{arith}
use lib.Dec.{eqb}
use lib.Bits.{bit_and, and_mask}
use lib.ListN.{length, take, drop, get_or, length-drop}
use lib.Seq.{drop-drop, take-take, take_all}
use Rattle.bits.specs.Bits.{num, bits, clear}
use Rattle.bits.proofs.BitLaws.{num-within, bits-drop, octet_field}
use Rattle.bits.proofs.Tests.{every_below_lem}
use Rattle.parity.specs.Crc.{crc}
use Rattle.definitions.specs.Frames.{Format, known, core_bits, class_a, octets, carries_modes, header_bits, spare_before, spare_after, type_in, core_in, fill_bits, fill_clear, spare_clear, crc_good}
use Rattle.definitions.proofs.Tables.{class_a_within}
use Rattle.frame.proofs.TableLaws.{modes_carried, sid-core}

-- ---- the tests

storage_test : ℕ → Bool
storage_test x = beq (eqb (bit_and x 0x83) 0) (eqb (x / 2 ^ 7 % 2 ^ 1) 0 && eqb (x / 2 ^ 0 % 2 ^ 2) 0)

-- the mask of the stored frame's spare bits, by one test that antt computes over the octets
storage_mask : (x : ℕ) → x < 256 → eqb (bit_and x 0x83) 0 ≡ (eqb (x / 2 ^ 7 % 2 ^ 1) 0 && eqb (x / 2 ^ 0 % 2 ^ 2) 0)
unfolding storage_test
storage_mask x h = go (eqb (bit_and x 0x83) 0) (eqb (x / 2 ^ 7 % 2 ^ 1) 0 && eqb (x / 2 ^ 0 % 2 ^ 2) 0) (every_below_lem 256 storage_test refl x h)
  where
    go : (a b : Bool) → beq a b ≡ true → a ≡ b
    go true true e = refl
    go false false e = refl
    go true false e = absurd (let z : ◌≡◌ {A = ℕ} 0 1 = cc in omega arith)
    go false true e = absurd (let z : ◌≡◌ {A = ℕ} 0 1 = cc in omega arith)

-- `fill_clear`: n octets, of which the last k bits are the filling
pub fill_is : (f : Format) (t : ℕ) (s : List ℕ) (n k r : ℕ) → n ≡ octets f t → k ≡ fill_bits f t → header_bits f t + core_bits t ≤ 8 * octets f t
    → r ≡ num k (drop (8 * n - k) (bits s)) → eqb r 0 ≡ fill_clear f t (bits s)
fill_is f t s n k r en ek h er =
    let back : 8 * octets f t - fill_bits f t ≡ header_bits f t + core_bits t = omega arith in
    ap (λ x. eqb x 0) (er ∙ ap₂ (λ m j. num j (drop (8 * m - j) (bits s))) en ek ∙ ap (λ j. num (fill_bits f t) (drop j (bits s))) back)

-- `sid_mode`
pub sid_is : (f : Format) (bs : List Bool) → num 4 (drop (header_bits f 9 + 36) bs) ≡ num 4 (drop 36 (core_in f 9 bs))
sid_is f bs =
    ap (num 4) (sym (drop-drop 36 (header_bits f 9) bs)) ∙ sym (num-within 4 36 40 (drop (header_bits f 9) bs) (omega arith))
    ∙ ap (λ k. num 4 (drop 36 (take k (drop (header_bits f 9) bs)))) (sym sid-core)

-- `crc_good`
pub crc_is : (f : Format) (s : List ℕ) (t a v w : ℕ) → t ≡ type_in f (bits s) → known t ≡ true → carries_modes f t ≡ true → a ≡ class_a t
    → v ≡ num 8 (drop 16 (bits s)) → w ≡ num 8 (crc (take a (bits (take (length s - 3) (drop 3 s))))) → eqb v w ≡ crc_good f (bits s)
unfolding crc_good
crc_is f s t a₀ v w e k c ea ev ew =
    let bs = bits s in
    let part : take (length s - 3) (drop 3 s) ≡ drop 3 s = take_all (length s - 3) (drop 3 s) (omega (arith, length-drop 3 s)) in
    let a = class_a_within t k in
    let same : take (class_a t) (bits (drop 3 s)) ≡ take (class_a t) (core_in f t (bits s)) =
    ap (take (class_a t)) (bits-drop 3 s ∙ ap (λ h. drop h bs) (sym (modes_carried f t k c).0))
    ∙ sym (take-take (class_a t) (core_bits t) (drop (header_bits f t) bs) a.0) in
    ap₂ eqb ev (ew ∙ ap₂ (λ k l. num 8 (crc (take k (bits l)))) ea part)
    ∙ ap (λ m. eqb (num 8 (drop 16 bs)) (num 8 (crc m))) same
    ∙ ap (λ b. not b || eqb (num 8 (drop 16 bs)) (num 8 (crc (take (class_a t) (core_in f t bs))))) (sym c)
    ∙ ap (λ u. not (carries_modes f u) || eqb (num 8 (drop 16 bs)) (num 8 (crc (take (class_a u) (core_in f u bs))))) e

pub no_crc : (f : Format) (s : List ℕ) (t : ℕ) → t ≡ type_in f (bits s) → carries_modes f t ≡ false → true ≡ crc_good f (bits s)
unfolding crc_good
no_crc f s t e c =
    let bs = bits s in
    ap (λ b. not b || eqb (num 8 (drop 16 bs)) (num 8 (crc (take (class_a t) (core_in f t bs))))) (sym c)
    ∙ ap (λ u. not (carries_modes f u) || eqb (num 8 (drop 16 bs)) (num 8 (crc (take (class_a u) (core_in f u bs))))) e

-- `spare_clear`: the first octet's spare bits, then the filling
pub spare-first : (f : Format) (bs : List Bool) (r : Bool) → r ≡ (clear (spare_before f) bs && clear (spare_after f) (drop (spare_before f + 5) bs)) → r ≡ false
    → false ≡ spare_clear f bs
unfolding spare_clear
spare-first f bs r e z = go (clear (spare_before f) bs) (clear (spare_after f) (drop (spare_before f + 5) bs)) (fill_clear f (type_in f bs) bs) (sym e ∙ z)
  where
    go : (a b c : Bool) → (a && b) ≡ false → false ≡ (a && (b && c))
    go true true c h = absurd (let z : ◌≡◌ {A = ℕ} 0 1 = cc in omega arith)
    go true false c h = refl
    go false b c h = refl

pub spare_fill : (f : Format) (bs : List Bool) (r : Bool) → r ≡ (clear (spare_before f) bs && clear (spare_after f) (drop (spare_before f + 5) bs)) → r ≡ true
    → (t : ℕ) (v : Bool) → t ≡ type_in f bs → v ≡ fill_clear f t bs → v ≡ spare_clear f bs
unfolding spare_clear
spare_fill f bs r e z t v et ev =
    ev ∙ ap (λ u. fill_clear f u bs) et ∙ go (clear (spare_before f) bs) (clear (spare_after f) (drop (spare_before f + 5) bs)) (fill_clear f (type_in f bs) bs) (sym e ∙ z)
  where
    go : (a b c : Bool) → (a && b) ≡ true → c ≡ (a && (b && c))
    go true true c h = refl
    go true false c h = absurd (let z : ◌≡◌ {A = ℕ} 0 1 = cc in omega arith)
    go false b c h = absurd (let z : ◌≡◌ {A = ℕ} 0 1 = cc in omega arith)

-- ---- the first octet's fields

pub first_if2 : (s : List ℕ) → true ≡ (clear 0 (bits s) && clear 0 (drop 5 (bits s)))
unfolding num
first_if2 s = refl

module _ (s : List ℕ) (o : get_or s 0 0 < 256) (h : 0 < length s) where
  field : (a k b : ℕ) → a + (k + b) ≡ 8 → num k (drop a (bits s)) ≡ get_or s 0 0 / 2 ^ b % 2 ^ k
  field a k b e = ap (λ i. num k (drop i (bits s))) (let z : a ≡ 8 * 0 + a = omega arith in z) ∙ octet_field 0 a k b s h e

  pub masked_field : (a k b : ℕ) → a + (k + b) ≡ 8 → bit_and (get_or s 0 0 / 2 ^ b) (2 ^ k - 1) ≡ num k (drop a (bits s))
  masked_field a k b e = and_mask (get_or s 0 0 / 2 ^ b) k ∙ sym (field a k b e)

  pub first_if1 : eqb (bit_and (get_or s 0 0) 0x07) 0 ≡ (clear 0 (bits s) && clear 3 (drop 5 (bits s)))
  unfolding num
  first_if1 = ap (λ n. eqb n 0) (and_mask (get_or s 0 0) 3 ∙ sym (field 5 3 0 refl ∙ (let z : get_or s 0 0 / 2 ^ 0 % 2 ^ 3 ≡ get_or s 0 0 % 2 ^ 3 = omega arith in z)))

  pub first_storage : eqb (bit_and (get_or s 0 0) 0x83) 0 ≡ (clear 1 (bits s) && clear 2 (drop 6 (bits s)))
  first_storage =
      storage_mask (get_or s 0 0) o
      ∙ ap₂ (λ m n. eqb m 0 && eqb n 0) (sym (field 0 1 7 refl)) (sym (field 6 2 0 refl))
