-- Octets and bits are the same thing: packing undoes unpacking, and unpacking undoes packing but for the filling.
use Rattle.std.specs.Prelude.{◌≡◌, Bool, false, List, ◌++◌, ℕ, ◌-◌, ◌*◌, length, replicate}
use Rattle.bits.specs.Bits.{bits, pack, octets_for, Octets}

pub record PacksBits : Type 0 where
  pub pack_bits : (s : List ℕ) → Octets s → pack (bits s) ≡ s
  pub bits_pack : (l : List Bool) → bits (pack l) ≡ l ++ replicate (8 * octets_for (length l) - length l) false
  pub pack_octets : (l : List Bool) → Octets (pack l)
