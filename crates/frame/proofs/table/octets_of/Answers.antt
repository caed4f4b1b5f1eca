-- `table::octets_of` meets its contract: each format has its column. Assumes nothing.
use Rattle.frame.proofs.Types.{if1_column, if2_column, storage_column}
use Rattle.frame.proofs.table.octets_of.Goals as goal

pub returns-in-If1 : goal.returns-in-If1
returns-in-If1 c = rw c.in-If1.is (if1_column c.args.t c.requires)

pub returns-in-If2 : goal.returns-in-If2
returns-in-If2 c = rw c.in-If2.is (if2_column c.args.t c.requires)

pub returns-in-Storage : goal.returns-in-Storage
returns-in-Storage c = rw c.in-Storage.is (storage_column c.args.t c.requires)
