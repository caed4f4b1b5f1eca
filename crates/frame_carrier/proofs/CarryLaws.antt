-- A frame's octets in another format: the core's octets are windows of the core, and the octets in front of them are the header's. Assumes
-- nothing.
use mathlib.Core.Path.{◌≡◌, sym, ap, ap₂, ◌∙◌}
use mathlib.Core.Bool.{Bool, true}
use mathlib.Core.List.{List, ◌∷◌, ◌++◌, append_assoc}
use Prim.Native.Nat.{ℕ, zero, suc, ◌+◌, ◌*◌}
use native.Mathlib.Omega.{arith}
use lib.ListN.{length, drop, length-append}
use lib.Seq.{drop-drop}
use Rattle.bits.specs.Bits.{num, packs, pack, octets_for}
use Rattle.definitions.specs.Frames.{Format, Frame, known, core_bits, octets, header, layout}
use Rattle.definitions.proofs.Tables.{sized}
use Rattle.definitions.proofs.Frames.{length-header}

-- a frame's bits in a format
abbrev pub frame_bits : Format → Frame → List Bool
frame_bits g y = header g y ++ y.core

pub layout-packs : (g : Format) (y : Frame) → known y.type ≡ true → length y.core ≡ core_bits y.type → layout g y ≡ packs (octets g y.type) (frame_bits g y)
unfolding layout pack
layout-packs g y k l =
    ap (λ n. packs n (frame_bits g y))
    (ap octets_for (length-append (header g y) y.core ∙ ap₂ ◌+◌ (length-header g y) l) ∙ sym (sized g y.type k).packed)

-- the header's octets in front of the others
pub in_front : (e m : ℕ) (l : List Bool) (hd : List ℕ) → hd ≡ packs e l → hd ++ packs m (drop (8 * e) l) ≡ packs (e + m) l
unfolding packs
in_front e m l hd h = ap (λ p. p ++ packs m (drop (8 * e) l)) h ∙ go e m l
  where
    go : (e m : ℕ) (l : List Bool) → packs e l ++ packs m (drop (8 * e) l) ≡ packs (e + m) l
    go zero m l = ap (λ k. packs k l) (let q : m ≡ 0 + m = omega arith in q)
    go (suc e) m l =
        ap (λ t. num 8 l ∷ t)
        (ap (λ d. packs e (drop 8 l) ++ packs m d) (ap (λ k. drop k l) (let q : 8 * suc e ≡ 8 + 8 * e = omega arith in q) ∙ sym (drop-drop (8 * e) 8 l))
        ∙ go e m (drop 8 l))
        ∙ ap (λ k. packs k l) (let q : suc (e + m) ≡ suc e + m = omega arith in q)

-- what is moved, with the header's octets in front, is the frame
pub joined : (g : Format) (y : Frame) (e m : ℕ) (hd rest : List ℕ) → known y.type ≡ true → length y.core ≡ core_bits y.type
    → octets g y.type ≡ e + m → hd ≡ packs e (frame_bits g y) → hd ++ (packs m (drop (8 * e) (frame_bits g y)) ++ rest) ≡ layout g y ++ rest
joined g y e m hd rest k l n h =
    sym (append_assoc hd (packs m (drop (8 * e) (frame_bits g y))) rest)
    ∙ ap (λ w. w ++ rest) (in_front e m (frame_bits g y) hd h ∙ ap (λ j. packs j (frame_bits g y)) (sym n) ∙ sym (layout-packs g y k l))
