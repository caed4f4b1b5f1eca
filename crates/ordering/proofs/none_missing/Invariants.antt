-- `ordering::none_missing` meets its contract: it marks the table's numbers one after the other. Assumes nothing.
use mathlib.Core.Path.{◌≡◌}
use Prim.Native.Nat.{◌≤◌}
use lib.ListN.{length, drop}
use Rattle.definitions.specs.Order.{none_missing}
use Rattle.ordering.proofs.MarkLaws.{fits}
use Rattle.ordering.proofs.none_missing.Given as goal

abbrev pub invariant-loop-n : goal.invariant-loop-n
invariant-loop-n l = (length l.table ≤ length l.seen) × (fits (length l.table) l.seen (drop l.n-index l.table) ≡ none_missing (length l.table) l.table)
