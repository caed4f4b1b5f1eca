-- `ordering::core_by` meets its contract: an octet of the core is the bits that eight numbers of the table name, and the last is those that the rest
-- names, shifted up. Assumes nothing.
use mathlib.Core.Path.{◌≡◌}
use mathlib.Core.List.{◌++◌}
use lib.ListN.{drop}
use Rattle.bits.specs.Bits.{packs}
use Rattle.definitions.specs.Order.{row_bits, ordered}
use Rattle.ordering.proofs.core_by.Given as goal

abbrev pub invariant-loop-j : goal.invariant-loop-j
invariant-loop-j l = l.core ≡ packs l.j (ordered l.table (row_bits l.row)) ++ drop l.j l.initial.core
