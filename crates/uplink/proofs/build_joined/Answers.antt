-- `uplink::build_joined` meets its contract: the joined core is packed, as the builder writes it. Assumes nothing.
use borrow.Author.Rules.{rules}
use mathlib.Core.Path.{◌≡◌, refl, sym, ap, ◌∙◌}
use mathlib.Core.Bool.{true, cond}
use mathlib.Core.List.{◌++◌}
use Prim.Native.Nat.{◌+◌, ◌≤◌}
use native.Mathlib.Omega.{arith}
use lib.Dec.{eqb}
use lib.ListN.{length, drop}
use lib.Seq.{length-take-le}
use borrow.Author.Tests.{le-leb}
use Rattle.bits.specs.Bits.{octets_for}
use Rattle.definitions.specs.Frames.{if1, core_bits, core_octets, octets, layout, fields_good}
use Rattle.links.specs.Calls.{up_frame}
use Rattle.uplink.proofs.UpLaws.{joinable, refused-up, written-refused, written_short, written_into, type_known, core_long, octets_if1, front_packed, frame_is, buffer-core, run_core, modes_low, writable}
use Rattle.uplink.proofs.build_joined.Goals as goal
use Rattle.uplink.proofs.build_joined.Goals.{After-core_octets-m, After-core_fields_good}

-- the octets of the packed core
size : (c : After-core_octets-m) → c.core_octets-m.result ≡ core_octets c.args.c.frame_type
size c = c.core_octets-m.ensures ∙ ap core_octets c.from.ensures

-- the packed core is within the buffer
within : (c : After-core_octets-m) → c.core_octets-m.result ≤ length c.join.new.core
within c = omega (arith, (octets_if1 c.args.request c.args.fqc c.requires _ (size c)).1, c.join.auto.core)

-- how many octets the frame takes
counted-there : (c : After-core_octets-m) → 3 + c.core_octets-m.result ≡ octets if1 c.args.c.frame_type
counted-there c = (octets_if1 c.args.request c.args.fqc c.requires _ (size c)).0

-- refusal 6's test is the definition's
tested : (c : After-core_fields_good) → let a = c.args in c.core_fields_good.result ≡ fields_good if1 (up_frame a.request a.fqc a.c a.s.s1.now a.s.s2.now a.s.s3.now)
tested c =
    let a = c.args in
    c.core_fields_good.ensures (cond (eqb a.fqc 0) 1 0)
    ∙ ap (fields_good if1) (frame_is a.request a.fqc c.requires _ _ _ _ _ c.from-2.ensures refl (c.from-3.ensures ∙ c.indication_of-i.ensures) c.from-4.ensures
    (buffer-core a.request a.fqc c.requires _ _ c.from-2.ensures (front_packed a.request a.fqc c.requires _ _ _ c.join.ensures (c.core_octets-m.ensures ∙ ap core_octets c.from.ensures))))

passed : (c : After-core_fields_good) → c.core_fields_good.result ≡ true
    → let a = c.args in fields_good if1 (up_frame a.request a.fqc a.c a.s.s1.now a.s.s2.now a.s.s3.now) ≡ true
passed c w = sym (tested c) ∙ w

pub join-requires : goal.join-requires
join-requires c = joinable _ c.requires (search rules)

pub slice_bounds-core-end : goal.slice_bounds-core-end
slice_bounds-core-end c = within (goal.at.slice_bounds-core-end c).After-core_octets-m

pub slice_bounds-core_fields_good-end : goal.slice_bounds-core_fields_good-end
slice_bounds-core_fields_good-end c = sym (length-take-le _ _ (within (goal.at.slice_bounds-core_fields_good-end c).After-core_octets-m))

pub core_fields_good-requires : goal.core_fields_good-requires
core_fields_good-requires c =
    let at = (goal.at.core_fields_good-requires c).After-core_octets-m in
    length-take-le _ _ (within at) ∙ size at ∙ ap (λ t. octets_for (core_bits t)) (sym c.from-2.ensures)

pub returns-then-not-core_fields_good : goal.returns-then-not-core_fields_good
returns-then-not-core_fields_good c =
    refused-up _ c.args.out.now _ (written-refused _ _ (sym (tested (goal.at.returns-then-not-core_fields_good c).After-core_fields_good) ∙ c.if-not-core_fields_good.true))

pub overflow_add-n : goal.overflow_add-n
overflow_add-n c = omega (arith, within (goal.at.overflow_add-n c).After-core_octets-m, c.join.auto.core)

pub returns-then-out-n : goal.returns-then-out-n
returns-then-out-n c =
    let at = goal.at.returns-then-out-n c in
    refused-up _ c.args.out.now _ (written_short _ _ _ (passed at.After-core_fields_good c.if-not-core_fields_good.false) (counted-there at.After-core_octets-m) (omega arith))

pub overflow_cast-h : goal.overflow_cast-h
overflow_cast-h c =
    omega (arith, (modes_low c.args.request c.args.fqc c.requires (passed (goal.at.overflow_cast-h c).After-core_fields_good c.if-not-core_fields_good.false)).1)

pub write_modes-requires : goal.write_modes-requires
write_modes-requires c =
    let a = c.args in
    let at = goal.at.write_modes-requires c in (
      writable a.request a.fqc c.requires _ _ _ a.out.now _ c.quality_of.ensures.1 c.indication_of-i.ensures (passed at.After-core_fields_good c.if-not-core_fields_good.false) c.join.auto.core (counted-there at.After-core_octets-m) c.if-out-n.false,
      le-leb a.c.frame_type 9 c.requires.type,
    )

pub returns : goal.returns
returns c =
    let a = c.args in
    let at = goal.at.returns c in
    let same = frame_is a.request a.fqc c.requires _ _ _ _ _ refl c.quality_of.ensures.0 c.indication_of-i.ensures refl (run_core a.request a.fqc c.requires _ _ c.join.ensures) in
    written_into _ a.out.now _ _ (passed at.After-core_fields_good c.if-not-core_fields_good.false) (type_known a.request a.fqc c.requires) (core_long a.request a.fqc c.requires) (counted-there at.After-core_octets-m) c.if-out-n.false
    (c.write_modes.ensures ∙ ap (λ x. layout if1 x ++ drop (octets if1 a.c.frame_type) a.out.now) same)
