-- `table::core_bits` meets its contract: it is a column of the table. Assumes nothing.
use Rattle.frame.proofs.Types.{core_column}
use Rattle.frame.proofs.table.core_bits.Goals as goal

pub returns : goal.returns
returns c = core_column c.args.t c.requires
