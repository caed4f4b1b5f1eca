-- `joins::write_merged` meets its contract: what is written and what is left of both make the whole. Assumes nothing.
use mathlib.Core.Path.{◌≡◌, ap, ◌∙◌}
use mathlib.Core.Logic.{◌⊎◌, inl, inr}
use mathlib.Core.List.{◌++◌}
use Prim.Native.Nat.{◌+◌, ◌≤◌}
use native.Mathlib.Omega.{arith}
use lib.ListN.{length, length-append}
use Rattle.definitions.specs.Reading.{overwritten}
use Rattle.joins.specs.Answers.{put_at}
use Rattle.joins.proofs.SlotLaws.{put-behind, length-overwritten, shorter, as-long, slot-room, passed-slot, passed-all, size-all, whole-is, whole-room}
use Rattle.joins.proofs.write_merged.Goals as goal
use Rattle.joins.proofs.write_merged.Goals.{Left-loop-a, After-put-2, then-loop-a-test+else-b-ne0, else-loop-a-test}

-- ---- a slot that both have

pub put-requires : goal.put-requires
put-requires c =
    let i = c.loop-a.invariant in
    let r = whole-room (length c.args.out.now) i.2 c.requires in
    omega (arith, i.1, slot-room i.2 c.next_slot.ensures, r, as-long i.2 c.args.out.now c.loop-a.out r i.3)

pub loop-a-smaller : goal.loop-a-smaller
loop-a-smaller c = shorter _ c.next_slot.ensures

pub loop-a-preserved : goal.loop-a-preserved
loop-a-preserved c =
    let i = c.loop-a.invariant in
    let z = c.next_slot.result.0.now in (
      i.0 ++ z,
      omega (arith, i.1, length-append i.0 z),
      passed-slot i.2 c.next_slot.ensures,
      c.put.ensures ∙ ap (put_at z c.loop-a.to) i.3 ∙ put-behind i.0 z c.args.out.now c.loop-a.to i.1,
    )

-- ---- behind the slots that both have

ended : (c : Left-loop-a) → (length c.loop-a.a.now ≡ 0) ⊎ (length c.loop-a.b.now ≡ 0)
ended c = elim c.loop-a-test.branch [ then-loop-a-test+else-b-ne0 w ↦ inr w.if-b-ne0.false | else-loop-a-test w ↦ inl w.loop-a-test.false ]

-- both have room there, one behind the other
rests : (c : Left-loop-a) → c.loop-a.to + length c.loop-a.a.now + length c.loop-a.b.now ≤ length c.args.out.now
rests c =
    let i = c.loop-a.invariant in
    omega (arith, i.1, size-all i.2 (ended c), whole-room (length c.args.out.now) i.2 c.requires)

pub put-requires-2 : goal.put-requires-2
put-requires-2 c =
    let i = c.loop-a.invariant in
    let r = whole-room (length c.args.out.now) i.2 c.requires in
    omega (arith, rests (goal.at.put-requires-2 c).Left-loop-a, as-long i.2 c.args.out.now c.loop-a.out r i.3)

-- what is left of the first is written
first_put : (c : After-put-2) → c.put-2.new.out ≡ overwritten (c.loop-a.invariant.0 ++ c.loop-a.a.now) c.args.out.now
first_put c =
    let i = c.loop-a.invariant in
    c.put-2.ensures ∙ ap (put_at c.loop-a.a.now c.loop-a.to) i.3 ∙ put-behind i.0 c.loop-a.a.now c.args.out.now c.loop-a.to i.1

pub put-requires-3 : goal.put-requires-3
put-requires-3 c =
    let p = (goal.at.put-requires-3 c).After-put-2 in
    let w = c.loop-a.invariant.0 in
    let r = rests (goal.at.put-requires-3 c).Left-loop-a in
    let n = length-append w c.loop-a.a.now in
    omega (arith, r, ap length (first_put p), length-overwritten (w ++ c.loop-a.a.now) c.args.out.now (omega (arith, n, r, c.loop-a.invariant.1)))

pub returns : goal.returns
returns c =
    λ xs ys g h.
    let i = c.loop-a.invariant in
    let w = i.0 ++ c.loop-a.a.now in
    let d = c.args.out.now in
    c.put-3.ensures ∙ ap (put_at c.loop-a.b.now _) (first_put (goal.at.returns c).After-put-2)
    ∙ put-behind w c.loop-a.b.now d _ (omega (arith, i.1, length-append i.0 c.loop-a.a.now))
    ∙ ap (λ w. overwritten w d) (passed-all i.2 (ended (goal.at.returns c).Left-loop-a) ∙ whole-is i.2 xs ys g h)
