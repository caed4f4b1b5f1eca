-- `ordering::row_by` meets its contract: each bit is put where the table says, and no place is named twice. Assumes nothing.
use lib.ListN.{length, take}
use Rattle.bits.specs.Bits.{bits}
use Rattle.ordering.proofs.OrderLaws.{Scattered}
use Rattle.ordering.proofs.row_by.Given as goal

abbrev pub invariant-loop-j : goal.invariant-loop-j
invariant-loop-j l = Scattered l.table (take (length l.table) (bits l.core)) l.initial.row l.row l.j
