-- `table::class_a` meets its contract: it is a column of the table. Assumes nothing.
use Rattle.frame.proofs.Types.{class_column}
use Rattle.frame.proofs.table.class_a.Goals as goal

pub returns : goal.returns
returns c = class_column c.args.t c.requires
