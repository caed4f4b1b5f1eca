-- `bits::copy_octets` meets its contract: after t turns the first t octets are those of the run. Assumes nothing.
use Rattle.std.proofs.Common.{◌≡◌, ◌*◌, take, drop}
use Rattle.bits.specs.Bits.{bits}
use Rattle.bits.proofs.copy_octets.Given as goal

abbrev pub invariant-loop-t : goal.invariant-loop-t
invariant-loop-t l = take (8 * l.t) (bits l.dst) ≡ take (8 * l.t) (drop l.a (bits l.src))
