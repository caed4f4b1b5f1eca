-- `ordering::core_by` meets its contract: an octet of the core is the bits that eight numbers of the table name, and the last is those that the rest
-- names, shifted up. Assumes nothing.
use mathlib.Core.Path.{◌≡◌, ap, ◌∙◌}
use mathlib.Core.List.{◌++◌}
use Prim.Native.Nat.{◌+◌, ◌<◌, ◌/◌}
use native.Mathlib.Omega.{arith}
use lib.ListN.{length, drop}
use Rattle.std.proofs.lemmas.Bool.Decides.{nat_tests}
use Rattle.bits.specs.Bits.{packs}
use Rattle.definitions.specs.Order.{row_bits, ordered}
use Rattle.definitions.proofs.Order.{length-ordered}
use Rattle.ordering.proofs.OrderLaws.{core-none, core_more, core-whole, length-part, part_below, part_octet, rest_octet}
use Rattle.ordering.proofs.core_by.Goals as goal

pub loop-j-init : goal.loop-j-init
loop-j-init c = core-none _ _

pub gather-requires : goal.gather-requires
gather-requires c =
    let k = c.as_chunks.ensures in
    let t = c.args.table.now in
    let h : c.loop-j.j < length t / 8 = omega arith in
    (part_below t _ k.front c.loop-j.j h _ c.requires.0, c.requires.1, omega (arith, length-part t _ k.front c.loop-j.j h))

pub loop-j-preserved : goal.loop-j-preserved
loop-j-preserved c =
    let k = c.as_chunks.ensures in
    let l = c.loop-j in
    let h : l.j < length c.args.table.now / 8 = omega arith in
    core_more _ _ _ l.j _ l.invariant (omega (arith, c.requires.2)) (part_octet _ _ k.front l.j h _ _ c.gather.ensures)

pub returns-then-not-is_empty : goal.returns-then-not-is_empty
returns-then-not-is_empty c =
    let k = c.as_chunks.ensures in
    let l = c.loop-j in
    let b = ordered c.args.table.now (row_bits c.args.row.now) in
    let n = length-ordered c.args.table.now (row_bits c.args.row.now) in
    let w = length c.as_chunks.result.0.now in
    let some : 0 < length c.as_chunks.result.1.now = grind (arith, nat_tests) in
    core_more b c.args.core.now l.core w _
    (l.invariant ∙ ap (λ j. packs j b ++ drop j c.args.core.now) (omega arith)) (omega (arith, c.requires.2))
    (rest_octet _ _ _ w _ k.back k.back_len k.front_len c.gather-then-not-is_empty.ensures)
    ∙ core-whole b c.args.core.now (w + 1) (omega arith)

pub returns-else-not-is_empty : goal.returns-else-not-is_empty
returns-else-not-is_empty c =
    let k = c.as_chunks.ensures in
    let l = c.loop-j in
    let b = ordered c.args.table.now (row_bits c.args.row.now) in
    let n = length-ordered c.args.table.now (row_bits c.args.row.now) in
    let none : length c.as_chunks.result.1.now ≡ 0 = grind (arith, nat_tests) in
    l.invariant ∙ core-whole b c.args.core.now l.j (omega arith)
