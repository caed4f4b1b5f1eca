-- The core's octets in the target are windows of the source's bits; behind the core the source has zeros up to its frame's end. Assumes nothing.
use mathlib.Core.Path.{◌≡◌, refl, sym, ap, ap₂, ◌∙◌, subst}
use mathlib.Core.Bool.{Bool, false}
use mathlib.Core.List.{List, [], ◌∷◌, ◌++◌, append_assoc}
use Prim.Native.Nat.{ℕ, suc, ◌+◌, ◌-◌, ◌*◌, ◌<◌}
use native.Mathlib.Omega.{arith}
use native.Mathlib.Numerals.{add-one}
use lib.ListN.{length, take, drop, get_or, set, replicate, length-append, length-drop, length-replicate}
use lib.Seq.{take_at, drop-drop, drop-append-le, drop-cons, set_at}
use Rattle.bits.specs.Bits.{digits, num, bits, packs, Octets}
use Rattle.bits.proofs.BitLaws.{length_digits, length-packs, num_pad, bits_from, length-bits, octets-take}
use Rattle.core_mover.proofs.PackLaws.{drop_padded, packs_padded, packs_more, octets_are}
use Rattle.core_mover.specs.Carriable.{Ends}

octets_front : (s t : List ℕ) → Octets (s ++ t) → Octets s
octets_front s t o = subst (λ (l : List ℕ). (i : ℕ) → get_or l i 0 < 256) (take_at s t (length s) refl) (octets-take (length s) (s ++ t) o)

module _ (src : List ℕ) (a c : ℕ) (w : List Bool) (z : ℕ) (r : List Bool) (ends : Ends src a c w z r) (la : a < 8) (inside : c < length src) where
  e : drop a (bits src) ≡ w ++ (replicate z false ++ r)
  e = ends.stream

  l : 8 * c + 8 ≡ length w + z + a
  l = ends.border

  -- d is copied, in front of o
  pub moved : (d o : List ℕ) → Octets (d ++ o) → bits d ≡ take (8 * c) (drop a (bits src)) → d ≡ packs c w
  moved d o h b =
      octets_are d c (drop a (bits src)) (octets_front d o h) (omega (arith, length-drop a (bits src), length-bits src)) b
      ∙ ap (packs c) e ∙ packs_padded c w z r (omega (arith, l))

  -- the source's last octet, shifted
  last_octet : (v : ℕ) → v ≡ num 8 (drop a (digits 8 (get_or src c 0))) → v ≡ num 8 (drop (8 * c) w)
  last_octet v ev =
      let y = get_or src c 0 in
      let s = bits (drop (suc c) src) in
      let z' = z - (8 * c - length w) in
      let w' = drop (8 * c) w in
      let whole : drop a (digits 8 (get_or src c 0)) ++ bits (drop (suc c) src) ≡ drop (8 * c) w ++ (replicate (z - (8 * c - length w)) false ++ r) =
      sym (drop-append-le a (digits 8 y) s (omega (arith, length_digits 8 y)))
      ∙ ap (drop a) (sym (bits_from c src inside))
      ∙ drop-drop a (8 * c) (bits src)
      ∙ ap (λ k. drop k (bits src)) (let q : 8 * c + a ≡ a + 8 * c = omega arith in q)
      ∙ sym (drop-drop (8 * c) a (bits src)) ∙ ap (drop (8 * c)) e ∙ drop_padded (8 * c) w z r (omega (arith, l)) in
      let n : length (drop a (digits 8 (get_or src c 0))) ≡ 8 - a = omega (arith, length-drop a (digits 8 y), length_digits 8 y) in
      let m : length (drop (8 * c) w ++ replicate (z - (8 * c - length w)) false) ≡ 8 - a =
      omega (arith, length-append w' (replicate z' false), length-replicate z' false, length-drop (8 * c) w, l) in
      let same : drop a (digits 8 (get_or src c 0)) ≡ drop (8 * c) w ++ replicate (z - (8 * c - length w)) false =
      sym (take_at (drop a (digits 8 y)) s (8 - a) n) ∙ ap (take (8 - a)) (whole ∙ sym (append_assoc w' (replicate z' false) r))
      ∙ take_at (w' ++ replicate z' false) r (8 - a) m in
      ev ∙ ap (num 8) same ∙ num_pad 8 w' z'

  pub moved_last : (d out : List ℕ) (v : ℕ) → d ≡ packs c w → v ≡ num 8 (drop a (digits 8 (get_or src c 0))) → c < length out
      → set (d ++ drop c out) c v ≡ packs (c + 1) w ++ drop (c + 1) out
  moved_last d out v ed ev h =
      let q = drop (suc c) out in
      ap₂ (λ p t. set (p ++ t) c v) ed (drop-cons out c 0 h)
      ∙ set_at (packs c w) (get_or out c 0) q v c (length-packs c w)
      ∙ sym (append_assoc (packs c w) (v ∷ []) q)
      ∙ ap₂ (λ u n. u ++ drop n out) (ap (λ u. packs c w ++ (u ∷ [])) (last_octet v ev) ∙ sym (packs_more c w)) (sym (add-one c))
