-- `table::fill_bits` meets its contract: two formats share a column. Assumes nothing.
use native.Mathlib.Omega.{arith}
use mathlib.Core.Logic.{⊎_elim}
use Rattle.definitions.proofs.Tables.{known-below}
use Rattle.frame.proofs.Types.{fill_column, storage_fill_column, if2_fill_column}
use Rattle.frame.proofs.table.fill_bits.Goals as goal

pub offset_bounds-t : goal.offset_bounds-t
offset_bounds-t c = omega (arith, known-below c.args.t c.requires)

pub bounds-t : goal.bounds-t
bounds-t c = known-below c.args.t c.requires

pub offset_bounds-t-in-If2 : goal.offset_bounds-t-in-If2
offset_bounds-t-in-If2 c = omega (arith, known-below c.args.t c.requires)

pub bounds-t-in-If2 : goal.bounds-t-in-If2
bounds-t-in-If2 c = known-below c.args.t c.requires

pub returns-in-If1 : goal.returns-in-If1
returns-in-If1 c = ⊎_elim (λ e. rw e (fill_column c.args.t (known-below c.args.t c.requires))) (λ e. rw e (storage_fill_column c.args.t (known-below c.args.t c.requires))) c.in-If1.is

pub returns-in-If2 : goal.returns-in-If2
returns-in-If2 c = rw c.in-If2.is (if2_fill_column c.args.t (known-below c.args.t c.requires))
