-- The CRC over what a frame holds, the bits of its core and its CRC octet: an octet is the number of the CRC exactly when its
-- digits are the CRC, so what `Detects` says of words it says of frames. Assumes nothing.
use Rattle.std.proofs.Common.{◌≡◌, ℕ, ◌+◌, ◌≤◌, Bool, List, length, take, drop, sym, ap, ◌∙◌, ap₂, arith, length-append, length-take-le, take_all, take_at, drop_at}
use Rattle.bits.specs.Bits.{digits, num}
use Rattle.bits.proofs.BitLaws.{length_digits, digits-num-le}
use Rattle.parity.specs.Crc.{crc}
use Rattle.parity.specs.Places.{guarded}
use Rattle.parity.specs.Claims.{DetectsInFrames}
use Rattle.parity.proofs.Register.{length-crc}
use Rattle.parity.proofs.Detect.{detects}

whole : (m : List Bool) → take 8 (crc m) ≡ crc m
whole m = take_all 8 (crc m) (omega (arith, length-crc m))

pub octet-bits : (m : List Bool) (c : ℕ) → c ≡ num 8 (crc m) → digits 8 c ≡ crc m
octet-bits m c e = ap (digits 8) e ∙ digits-num-le 8 (crc m) (omega (arith, length-crc m)) ∙ whole m

module _ (n : ℕ) (d : List Bool) (c : ℕ) (h : n ≤ length d) where
  length-guarded : length (guarded n d c) ≡ n + 8
  length-guarded = length-append (take n d) (digits 8 c) ∙ ap₂ ◌+◌ (length-take-le n d h) (length_digits 8 c)

  -- the CRC octet of a frame is right exactly when the word is one that `Detects` speaks of
  guarded-right : c ≡ num 8 (crc (take n d)) → drop n (guarded n d c) ≡ crc (take n (guarded n d c))
  guarded-right e =
      drop_at (take n d) (digits 8 c) n (length-take-le n d h)
      ∙ octet-bits (take n d) c e ∙ ap crc (sym (take_at (take n d) (digits 8 c) n (length-take-le n d h)))

pub frames-differ : DetectsInFrames crc
frames-differ = record {
  differ = λ n d d' x x' h l l' e e'.
      detects.differ n (guarded n d x) (guarded n d' x') h (length-guarded n d x l) (length-guarded n d' x' l')
      (guarded-right n d x l e) (guarded-right n d' x' l' e');
}
