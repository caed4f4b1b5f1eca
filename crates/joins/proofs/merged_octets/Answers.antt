-- `joins::merged_octets` meets its contract: what is counted and what is left of both make the whole. Assumes nothing.
use mathlib.Core.Path.{◌≡◌, ap}
use mathlib.Core.Logic.{◌⊎◌, inl, inr}
use mathlib.Core.List.{◌++◌}
use native.Mathlib.Omega.{arith}
use lib.ListN.{length, length-append}
use Rattle.joins.proofs.SlotLaws.{shorter, passed-slot, size-all, whole-is}
use Rattle.joins.proofs.merged_octets.Goals as goal
use Rattle.joins.proofs.merged_octets.Goals.{then-loop-a-test+else-b-ne0, else-loop-a-test}

pub loop-a-smaller : goal.loop-a-smaller
loop-a-smaller c = shorter _ c.next_slot.ensures

pub loop-a-preserved : goal.loop-a-preserved
loop-a-preserved c =
    let i = c.loop-a.invariant in
    let z = c.next_slot.result.0.now in
    (i.0 ++ z, omega (arith, i.1, length-append i.0 z), passed-slot i.2 c.next_slot.ensures)

pub returns : goal.returns
returns c =
    let i = c.loop-a.invariant in
    let ended : (length c.loop-a.a.now ≡ 0) ⊎ (length c.loop-a.b.now ≡ 0) =
    elim c.loop-a-test.branch [ then-loop-a-test+else-b-ne0 w ↦ inr w.if-b-ne0.false | else-loop-a-test w ↦ inl w.loop-a-test.false ] in
    ((λ xs ys g h. omega (arith, i.1, size-all i.2 ended, ap length (whole-is i.2 xs ys g h))), omega (arith, i.1, i.2.small))
