-- `codec_order::order_to_core` meets its contract: what is judged good is put in order, and nothing else is written. Assumes nothing.
use mathlib.Core.Path.{◌∙◌}
use lib.ListN.{length}
use Rattle.definitions.specs.Order.{to_core_call}
use Rattle.codec_order.proofs.CallLaws.{row_taken, writes, written_out}
use Rattle.codec_order.proofs.order_to_core.Goals as goal

pub put_core-requires : goal.put_core-requires
put_core-requires c =
    let a = c.args in
    let w = writes (to_core_call a.mode a.sheet.now a.row.now (length a.core.now)) c.in_ok-n.n c.in_ok-n.ensures in
    (row_taken a.mode a.sheet.now a.row.now a.core.now w.0 w.1).0

pub returns : goal.returns
returns c =
    let a = c.args in
    let o = to_core_call a.mode a.sheet.now a.row.now (length a.core.now) in
    let w = writes o c.in_ok-n.n c.in_ok-n.ensures in
    written_out o c.in_ok-n.n w.0 _ _ c.in_ok-n.ensures w.1 (c.put_core.ensures ∙ (row_taken a.mode a.sheet.now a.row.now a.core.now w.0 w.1).1)
