-- The tables are computed, the calls follow from what a permutation is, and their refusals from their tests. Assumes nothing.
use Rattle.definitions.proofs.Order.{tables_permute, tests_tables, orders_back, orders_by_tables, to_core-unread, to_row-unread}
use Rattle.definitions.proofs.OrderRefusals.{refuses-orders}
use Rattle.definitions.proofs.WrongOrders.{wrong_orders}
use Rattle.definitions.proofs.order_claim.Goals as goal

pub returns : goal.returns
returns c = (tables_permute, tests_tables, orders_back, orders_by_tables, to_core-unread, to_row-unread, refuses-orders, wrong_orders)
