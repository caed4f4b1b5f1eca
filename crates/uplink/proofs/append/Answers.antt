-- `uplink::append` meets its contract. Assumes nothing.
use native.Mathlib.Omega.{arith}
use lib.ListN.{take}
use lib.Seq.{length-take-le}
use Rattle.bits.specs.Bits.{bits}
use Rattle.bits.proofs.BitLaws.{length-bits}
use Rattle.uplink.proofs.UpLaws.{put-behind}
use Rattle.uplink.proofs.append.Goals as goal

pub returns-then-size-gt0 : goal.returns-then-size-gt0
returns-then-size-gt0 c =
    λ x d l e.
    let a = c.args in
    put-behind x (take a.size (bits a.s.now)) d a.core.now _ a.at a.size (length-take-le a.size (bits a.s.now) (omega (arith, length-bits a.s.now, c.requires.0))) l e
    (rw c.from.ensures at c.put_run.ensures)
