-- The octets that are stored are the layout: each header octet is its fields' digits, and the core is packed behind them. Assumes nothing.
use mathlib.Core.Path.{◌≡◌, refl, sym, ap, ap₂, ◌∙◌}
use mathlib.Core.Bool.{Bool, true, false, not, ◌||◌}
use mathlib.Core.List.{List, [], ◌∷◌, ◌++◌, append_assoc, append-nil}
use Prim.Native.Nat.{ℕ, zero, suc, ◌+◌, ◌-◌, ◌*◌, ◌<◌, ◌≤◌}
use native.Mathlib.Nat.{add-zero, zero-lt-suc}
use native.Mathlib.Omega.{arith}
use lib.Dec.{leb}
use lib.ListN.{length, set, take, drop, length-drop}
use lib.Seq.{drop_at, take_all, take-take, take-append-le, drop-set-lt, length-take-le}
use borrow.Author.Tests.{leb-true}
use Rattle.bits.specs.Bits.{digits, num, bits, pack, octets_for, Octets}
use Rattle.bits.proofs.BitLaws.{digits-join, length_digits, length-bits, bits-set, bits-take, pack_bits, pack-append, take_packed, octets-take}
use Rattle.bits.proofs.Tests.{given, every_below_lem}
use Rattle.parity.specs.Crc.{crc}
use Rattle.parity.proofs.Guarded.{octet-bits}
use Rattle.definitions.specs.Frames.{Format, if1, if2, storage, Frame, known, core_bits, class_a, octets, carries_modes, modes_and_crc, header, layout, header_bits, spare_before}
use Rattle.definitions.proofs.Tables.{sized, class_a_within}
use Rattle.frame.specs.Answers.{frame_with}
use Rattle.frame.specs.declared.FrameHeader.{FrameHeader}
use Rattle.frame.proofs.TableLaws.{modes_carried}
use Rattle.frame_writer.specs.Writing.{run_frame, Writable}

-- ---- the first octet

-- type and quality, behind and before spare bits
abbrev pub first_bits : Format → ℕ → ℕ → List Bool
first_bits f t q = digits (spare_before f) 0 ++ (digits 4 t ++ (digits 1 q ++ digits (3 - spare_before f) 0))

module _ (t q : ℕ) (ht : t < 16) (hq : q < 2) where
  five : digits 5 (t * 2 + q) ≡ digits 4 t ++ digits 1 q
  five = digits-join 4 1 t q hq

  small : t * 2 + q < 32
  small = omega arith

  pub first_if : digits 8 ((t * 2 + q) * 8) ≡ first_bits if1 t q
  unfolding digits
  first_if =
      ap (digits 8) (sym (add-zero ((t * 2 + q) * 8))) ∙ digits-join 5 3 (t * 2 + q) 0 (zero-lt-suc 7) ∙ ap (λ l. l ++ digits 3 0) five

  pub first_storage : digits 8 ((t * 2 + q) * 4) ≡ first_bits storage t q
  unfolding digits
  first_storage =
      let z : t * 2 + q ≡ 0 * 32 + (t * 2 + q) = omega arith in
      ap (digits 8) (sym (add-zero ((t * 2 + q) * 4))) ∙ digits-join 6 2 (t * 2 + q) 0 (zero-lt-suc 3)
      ∙ ap (λ l. l ++ digits 2 0) (ap (digits 6) z ∙ digits-join 1 5 0 (t * 2 + q) small ∙ ap (λ l. digits 1 0 ++ l) five)

-- ---- a frame whose header is within one octet

short_header : (f : Format) (x : Frame) → carries_modes f x.type ≡ false → take (header_bits f x.type) (first_bits f x.type x.quality) ≡ header f x
unfolding header digits
short_header if1 x c = rw c
short_header if2 x c = refl
short_header storage x c = refl

short_bits : (f : Format) (t : ℕ) → carries_modes f t ≡ false → header_bits f t ≤ 8
short_bits if1 t c = rw c (omega arith)
short_bits if2 t c = omega arith
short_bits storage t c = omega arith

pub short_is : (f : Format) (h : FrameHeader) (src : List ℕ) (from : ℕ) (d₀ d : List ℕ) (o k b : ℕ) → Writable f h src from d₀
    → carries_modes f h.frame_type ≡ false → digits 8 o ≡ first_bits f h.frame_type h.quality
    → k ≡ core_bits h.frame_type → b ≡ header_bits f h.frame_type
    → d ≡ pack (take b (bits (set d₀ 0 o)) ++ take k (drop from (bits src))) ++ drop (octets_for (b + k)) (set d₀ 0 o)
    → d ≡ layout f (run_frame h src from) ++ drop (octets f h.frame_type) d₀
unfolding layout
short_is f h src from d₀ d o k b w c eo ek eb e =
    let x = run_frame h src from in
    let t = h.frame_type in
    let z = sized f t w.type_known in
    let some : 0 < length d₀ = omega (arith, w.room, z.some-octet) in
    let r : List Bool = bits (drop 1 d₀) in
    let front : take (header_bits f t) (bits (set d₀ 0 o)) ≡ header f (run_frame h src from) =
    ap (take (header_bits f t)) (bits-set 0 d₀ o some)
    ∙ take-append-le (header_bits f t) (digits 8 o) r (omega (arith, length_digits 8 o, short_bits f t c))
    ∙ ap (take (header_bits f t)) eo ∙ short_header f x c in
    let size : octets_for (b + k) ≡ octets f h.frame_type = ap₂ (λ m n. octets_for (m + n)) eb ek ∙ sym z.packed in
    e ∙ ap₂ (λ l n. pack l ++ drop n (set d₀ 0 o))
    (ap₂ (λ m n. take m (bits (set d₀ 0 o)) ++ take n (drop from (bits src))) eb ek ∙ ap (λ l. l ++ take (core_bits t) (drop from (bits src))) front) size
    ∙ ap (λ l. layout f x ++ l) (drop-set-lt (octets f t) d₀ 0 o (omega (arith, z.some-octet)))

-- ---- an IF1 frame of types 0 to 9

pub second_octet : (i r : ℕ) → r < 16 → digits 8 (i * 16 + r) ≡ digits 4 i ++ digits 4 r
second_octet i r h = digits-join 4 4 i r h

header-joined : (t q i r : ℕ) (l : List Bool)
    → first_bits if1 t q ++ (digits 4 i ++ digits 4 r ++ l) ≡ digits 4 t ++ (digits 1 q ++ (digits 3 0 ++ (digits 4 i ++ (digits 4 r ++ l))))
unfolding digits
header-joined t q i r l = refl

-- the header's three octets
pub long_header : (x : Frame) (o p c : ℕ) → carries_modes if1 x.type ≡ true → digits 8 o ≡ first_bits if1 x.type x.quality
    → digits 8 p ≡ digits 4 x.indication ++ digits 4 x.request → digits 8 c ≡ crc (take (class_a x.type) x.core)
    → header if1 x ≡ bits (o ∷ p ∷ c ∷ [])
unfolding header bits
long_header x o p c m eo ep ec =
    let l = crc (take (class_a x.type) x.core) in
    ap (λ b. digits 4 x.type ++ (digits 1 x.quality ++ (digits 3 0 ++ modes_and_crc b x))) m
    ∙ sym (header-joined x.type x.quality x.indication x.request l)
    ∙ ap₂ (λ j k. j ++ (k ++ l)) (sym eo) (sym ep) ∙ ap (λ k. digits 8 o ++ (digits 8 p ++ k)) (sym (append-nil (digits 8 c) ∙ ec))

set-three : (f r : List ℕ) (o p c : ℕ) → length f ≡ 3 → set (set (set (f ++ r) 0 o) 1 p) 2 c ≡ o ∷ p ∷ c ∷ r
set-three [] r o p c h = absurd (omega arith)
set-three (x ∷ []) r o p c h = absurd (omega arith)
set-three (x ∷ y ∷ []) r o p c h = absurd (omega arith)
set-three (x ∷ y ∷ z ∷ []) r o p c h = refl
set-three (x ∷ y ∷ z ∷ w ∷ f) r o p c h = absurd (omega arith)

pub octets-three : (o p c : ℕ) → o < 256 → p < 256 → c < 256 → Octets (o ∷ p ∷ c ∷ [])
octets-three o p c ho hp hc zero = ho
octets-three o p c ho hp hc (suc zero) = hp
octets-three o p c ho hp hc (suc (suc zero)) = hc
octets-three o p c ho hp hc (suc (suc (suc i))) = zero-lt-suc 255

-- types 0 to 9 are known
pub modes_known : (t : ℕ) → carries_modes if1 t ≡ true → known t ≡ true
unfolding known
modes_known t m = given (leb t 9) (known t) (every_below_lem 16 (λ t. not (leb t 9) || known t) refl t (omega (arith, leb-true t 9 m))) m

-- the octets after a core was put behind the first three
module _ (h : FrameHeader) (src : List ℕ) (from : ℕ) (d₀ : List ℕ) (w : Writable if1 h src from d₀) (m : carries_modes if1 h.frame_type ≡ true) where
  pub core-size : length (take (core_bits h.frame_type) (drop from (bits src))) ≡ core_bits h.frame_type
  core-size = length-take-le (core_bits h.frame_type) (drop from (bits src)) (omega (arith, length-drop from (bits src), length-bits src, w.core_there))

  pub three-there : length (take 3 d₀) ≡ 3
  three-there = length-take-le 3 d₀ (omega (arith, (modes_carried if1 h.frame_type w.type_known m).1, w.room))

  pub core-put : (d₁ : List ℕ) (k : ℕ) → Octets d₀ → k ≡ core_bits h.frame_type
      → d₁ ≡ pack (take 24 (bits d₀) ++ take k (drop from (bits src))) ++ drop (octets_for (24 + k)) d₀
      → d₁ ≡ take 3 d₀ ++ (pack (take (core_bits h.frame_type) (drop from (bits src))) ++ drop (octets if1 h.frame_type) d₀)
  core-put d₁ k oct ek e =
      let t = h.frame_type in
      let z = sized if1 t w.type_known in
      let size : octets_for (24 + k) ≡ octets if1 h.frame_type =
      ap₂ (λ x y. octets_for (x + y)) (sym (modes_carried if1 t w.type_known m).0) ek ∙ sym z.packed in
      let l24 : length (take 24 (bits d₀)) ≡ 8 * 3 = length-take-le 24 (bits d₀) (omega (arith, length-bits d₀, (modes_carried if1 t w.type_known m).1, w.room)) in
      e ∙ ap₂ (λ n r. pack (take 24 (bits d₀) ++ take n (drop from (bits src))) ++ drop r d₀) ek size
      ∙ ap (λ l. l ++ drop (octets if1 t) d₀) (pack-append (take 24 (bits d₀)) (take (core_bits t) (drop from (bits src))) 3 l24
      ∙ ap (λ l. l ++ pack (take (core_bits t) (drop from (bits src)))) (ap pack (sym (bits-take 3 d₀)) ∙ pack_bits (take 3 d₀) (octets-take 3 d₀ oct)))
      ∙ append_assoc (take 3 d₀) (pack (take (core_bits t) (drop from (bits src)))) (drop (octets if1 t) d₀)

-- the header's octets stored in front of a core that is there
module _ (h : FrameHeader) (d : List ℕ) (a : ℕ) (m : carries_modes if1 h.frame_type ≡ true) (rb : h.request < 16) (ea : a ≡ class_a h.frame_type)
    (front rest : List ℕ) (core : List Bool) (three : length front ≡ 3) (size : length core ≡ core_bits h.frame_type)
    (there : d ≡ front ++ (pack core ++ rest)) where
  -- Class A, where the code takes the CRC from
  class_a_there : take a (bits (take (length d - 3) (drop 3 d))) ≡ take (class_a h.frame_type) core
  class_a_there =
      let t = h.frame_type in
      let part : take (length d - 3) (drop 3 d) ≡ pack core ++ rest =
      take_all (length d - 3) (drop 3 d) (omega (arith, length-drop 3 d)) ∙ ap (drop 3) there ∙ drop_at front (pack core ++ rest) 3 three in
      ap₂ (λ n l. take n (bits l)) ea part
      ∙ sym (take-take (class_a t) (length core) (bits (pack core ++ rest)) (omega (arith, size, (class_a_within t (modes_known t m)).0)))
      ∙ ap (take (class_a t)) (take_packed core rest)

  pub modes_is : (o p c : ℕ) → o < 256 → p < 256 → c < 256 → digits 8 o ≡ first_bits if1 h.frame_type h.quality
      → p ≡ h.indication * 16 + h.request → c ≡ num 8 (crc (take a (bits (take (length d - 3) (drop 3 d)))))
      → set (set (set d 0 o) 1 p) 2 c ≡ layout if1 (frame_with h core) ++ rest
  unfolding layout
  modes_is o p c ho hp hc eo ep ec =
      let x = frame_with h core in
      let t = h.frame_type in
      let head = long_header x o p c m eo (ap (digits 8) ep ∙ second_octet h.indication h.request rb)
      (octet-bits (take (class_a t) core) c (ec ∙ ap (λ l. num 8 (crc l)) class_a_there)) in
      ap (λ l. set (set (set l 0 o) 1 p) 2 c) there
      ∙ set-three front (pack core ++ rest) o p c three
      ∙ ap (λ l. l ++ (pack core ++ rest)) (sym (pack_bits (o ∷ p ∷ c ∷ []) (octets-three o p c ho hp hc)))
      ∙ sym (append_assoc (pack (bits (o ∷ p ∷ c ∷ []))) (pack core) rest)
      ∙ ap (λ l. l ++ rest) (sym (pack-append (bits (o ∷ p ∷ c ∷ [])) core 3 (length-bits (o ∷ p ∷ c ∷ []))) ∙ ap (λ l. pack (l ++ core)) (sym head))
