-- `codec_order::order_to_row` meets its contract: what is judged good is put in order, and nothing else is written. Assumes nothing.
use mathlib.Core.Path.{◌∙◌}
use lib.ListN.{length}
use Rattle.definitions.specs.Order.{to_row_call}
use Rattle.codec_order.proofs.CallLaws.{core_taken, writes, written_out}
use Rattle.codec_order.proofs.order_to_row.Goals as goal

pub put_row-requires : goal.put_row-requires
put_row-requires c =
    let a = c.args in
    let w = writes (to_row_call a.mode a.sheet.now a.core.now (length a.row.now)) c.in_ok-n.n c.in_ok-n.ensures in
    (core_taken a.mode a.sheet.now a.core.now a.row.now w.0 w.1).0

pub returns : goal.returns
returns c =
    let a = c.args in
    let o = to_row_call a.mode a.sheet.now a.core.now (length a.row.now) in
    let w = writes o c.in_ok-n.n c.in_ok-n.ensures in
    written_out o c.in_ok-n.n w.0 _ _ c.in_ok-n.ensures w.1 (c.put_row.ensures ∙ (core_taken a.mode a.sheet.now a.core.now a.row.now w.0 w.1).1)
