-- `ordering::gather` meets its contract: each turn takes in the next bit. Assumes nothing.
use native.Mathlib.Omega.{arith}
use Rattle.ordering.proofs.OrderLaws.{num-none, gathered}
use Rattle.ordering.proofs.gather.Goals as goal

pub loop-n-init : goal.loop-n-init
loop-n-init c = num-none _

pub overflow_mul-v : goal.overflow_mul-v
overflow_mul-v c =
    let l = c.loop-n in omega (arith, (gathered _ _ l.n-index l.v (c.requires.0 l.n-index (omega arith)) c.requires.1 (omega arith) c.requires.2 l.invariant).small)

pub overflow_add-v : goal.overflow_add-v
overflow_add-v c =
    let l = c.loop-n in
    let s = gathered _ _ l.n-index l.v (c.requires.0 l.n-index (omega arith)) c.requires.1 (omega arith) c.requires.2 l.invariant in
    rw c.from.ensures (omega (arith, s.small, s.bit))

pub loop-n-preserved : goal.loop-n-preserved
loop-n-preserved c =
    let l = c.loop-n in
    rw c.from.ensures (gathered _ _ l.n-index l.v (c.requires.0 l.n-index (omega arith)) c.requires.1 (omega arith) c.requires.2 l.invariant).more
