-- `parity::crc_of` meets its contract: `r` is the CRC of the whole octets so far, and then of the first i bits. Assumes nothing.
use Rattle.std.proofs.Common.{◌≡◌, ◌*◌, take}
use Rattle.bits.specs.Bits.{bits, num}
use Rattle.parity.specs.Crc.{crc}
use Rattle.parity.proofs.crc_of.Given as goal

abbrev pub invariant-loop-x : goal.invariant-loop-x
invariant-loop-x l = l.r ≡ num 8 (crc (take (8 * l.x-index) (bits l.x-items)))

abbrev pub invariant-loop-i : goal.invariant-loop-i
invariant-loop-i l = l.r ≡ num 8 (crc (take l.i (bits l.core)))
