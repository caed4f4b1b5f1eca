-- `bits::copy` meets its contract: after t turns the first t octets are there. Assumes nothing.
use Rattle.std.proofs.Common.{◌≡◌, take}
use Rattle.bits.proofs.copy.Given as goal

abbrev pub invariant-loop-t : goal.invariant-loop-t
invariant-loop-t l = take l.t l.dst ≡ take l.t l.src
