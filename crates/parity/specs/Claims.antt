-- What is claimed of the CRC, as statements over any function c from a message to its check bits.
use Rattle.std.specs.Prelude.{◌≡◌, ℕ, ◌+◌, ◌≤◌, Bool, ◌≢◌, List, ◌++◌, length, take, drop}
use Rattle.bits.specs.Bits.{num}
use Rattle.parity.specs.Crc.{generator, product}
use Rattle.parity.specs.Places.{differences, count_true, first_true, last_true, guarded}

-- c m is the remainder of m · D^8 by G: eight coefficients that make m · D^8 + c m a multiple of G, and no others do
pub record IsRemainder (c : List Bool → List Bool) : Type 0 where
  pub eight : (m : List Bool) → length (c m) ≡ 8
  pub multiple : (m : List Bool) → (q : List Bool) × (product q generator ≡ m ++ c m)
  pub only : (m r q : List Bool) → length r ≡ 8 → product q generator ≡ m ++ r → r ≡ c m

-- at least three places differ, and the last lies at least eight after the first
abbrev pub Apart : List Bool → List Bool → Type 0
Apart v w = (3 ≤ count_true (differences v w)) × (first_true (differences v w) + 8 ≤ last_true (differences v w))

-- Two different words, each n message bits and their check bits, are apart. So one or two changed bits, or changed bits that fit in
-- eight neighbouring places, are found. It is one claim over the length n; 247 is the most for which it holds.
pub record Detects (c : List Bool → List Bool) : Type 0 where
  pub differ : (n : ℕ) (v w : List Bool) → n ≤ 247 → length v ≡ n + 8 → length w ≡ n + 8
      → drop n v ≡ c (take n v) → drop n w ≡ c (take n w) → v ≢ w → Apart v w

-- The same of frames, by core and CRC octet: where the guarded places of two frames with n Class A bits differ at all, they are apart.
pub record DetectsInFrames (c : List Bool → List Bool) : Type 0 where
  pub differ : (n : ℕ) (d d' : List Bool) (x x' : ℕ) → n ≤ 247 → n ≤ length d → n ≤ length d'
      → x ≡ num 8 (c (take n d)) → x' ≡ num 8 (c (take n d')) → guarded n d x ≢ guarded n d' x' → Apart (guarded n d x) (guarded n d' x')
