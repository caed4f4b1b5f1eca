-- `table::if2_octets` meets its contract: it is a column of the table. Assumes nothing.
use native.Mathlib.Omega.{arith}
use Rattle.frame.proofs.Types.{if2_column}
use Rattle.frame.proofs.table.if2_octets.Goals as goal

pub returns : goal.returns
returns c = (if2_column c.args.t (omega arith)).0
