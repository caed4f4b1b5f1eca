-- `ordering::gather` meets its contract: each turn takes in the next bit. Assumes nothing.
use mathlib.Core.Path.{◌≡◌}
use Rattle.bits.specs.Bits.{num}
use Rattle.definitions.specs.Order.{row_bits, ordered}
use Rattle.ordering.proofs.gather.Given as goal

abbrev pub invariant-loop-n : goal.invariant-loop-n
invariant-loop-n l = l.v ≡ num l.n-index (ordered l.part (row_bits l.row))
