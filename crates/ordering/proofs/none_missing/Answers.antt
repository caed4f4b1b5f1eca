-- `ordering::none_missing` meets its contract: it marks the table's numbers one after the other. Assumes nothing.
use mathlib.Core.Path.{refl}
use Rattle.ordering.proofs.MarkLaws.{fits-none_missing}
use Rattle.ordering.proofs.none_missing.Goals as goal

pub loop-n-init : goal.loop-n-init
loop-n-init c = (c.requires, fits-none_missing _ _ 477 c.requires refl)
