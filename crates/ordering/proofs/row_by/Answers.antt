-- `ordering::row_by` meets its contract: each bit is put where the table says, and no place is named twice. Assumes nothing.
use mathlib.Core.Path.{sym, ap, ◌∙◌, subst}
use native.Mathlib.Omega.{arith}
use lib.ListN.{length, take}
use lib.Seq.{get_or-take}
use Rattle.bits.specs.Bits.{one_if, bits}
use Rattle.ordering.proofs.OrderLaws.{byte_bit, Scattered, scattered_more, scattered_whole}
use Rattle.ordering.proofs.row_by.Goals as goal

pub loop-j-preserved : goal.loop-j-preserved
loop-j-preserved c =
    let l = c.loop-j in
    let k = length c.args.table.now in
    rw c.from-in-loop-j.ensures (scattered_more _ c.requires.0 _ _ c.requires.2 l.row l.j _ (omega arith)
    (c.from.ensures ∙ byte_bit c.bit_at.result ∙ ap one_if (c.bit_at.ensures ∙ sym (get_or-take k (bits c.args.core.now) l.j _ (omega arith)))) l.invariant)

pub returns : goal.returns
returns c =
    let l = c.loop-j in
    scattered_whole _ c.requires.0 _ _ c.requires.2 l.row
    (subst (Scattered c.args.table.now (take (length c.args.table.now) (bits c.args.core.now)) c.args.row.now l.row) (omega arith) l.invariant)
