-- `uplink::join` meets its contract: each run is put behind the ones before it. Assumes nothing.
use Rattle.uplink.proofs.UpLaws.{joins}
use Rattle.uplink.proofs.join.Goals as goal

pub returns : goal.returns
returns c =
    let a = c.args in
    joins a.c a.s.s1.now a.s.s2.now a.s.s3.now a.core.now _ _ _ c.requires c.append.ensures (rw c.from-n1.ensures at c.append-2.ensures)
    (rw (c.from-n1.ensures, c.from-n2.ensures) at c.append-3.ensures)
