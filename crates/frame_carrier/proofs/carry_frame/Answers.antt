-- `frame_carrier::carry_frame` meets its contract: the header's octets in front of the core that was moved. Assumes nothing.
use borrow.Author.Rules.{rules}
use mathlib.Core.Path.{◌≡◌, refl, sym, ap, subst}
use mathlib.Core.List.{List}
use Prim.Native.Nat.{ℕ}
use native.Mathlib.Omega.{arith}
use borrow.Author.Tests.{le-leb}
use Rattle.definitions.specs.Frames.{Format}
use Rattle.frame.specs.Answers.{format_of}
use Rattle.core_mover.specs.Carriable.{CoreMoved}
use Rattle.frame_carrier.proofs.FrontLaws.{space, fronts, if1_room, core_in_lem, first_small, indication_small, done_none, done_if1, done_if2, done_storage}
use Rattle.frame_carrier.proofs.carry_frame.Goals as goal

-- `move_core`'s promise, of the type as a u8
moved : {f g : Format} {n t : ℕ} {s d e : List ℕ} → n ≡ t → CoreMoved f g n s d e → CoreMoved f g t s d e
moved {f = f} {g = g} {s = s} {d = d} {e = e} same m = subst (λ t. CoreMoved f g t s d e) same m

pub type_in-t-requires : goal.type_in-t-requires
type_in-t-requires c = (space (format_of c.args.c.from) (format_of c.args.c.to) c.args.src.now c.args.out.now c.requires.0 c.requires.1).0

pub quality_in-q-requires : goal.quality_in-q-requires
quality_in-q-requires c = (space (format_of c.args.c.from) (format_of c.args.c.to) c.args.src.now c.args.out.now c.requires.0 c.requires.1).0

pub first_octet-first-requires : goal.first_octet-first-requires
first_octet-first-requires c =
    let f = format_of c.args.c.from in
    let w = fronts f (format_of c.args.c.to) c.args.src.now c.args.out.now c.requires.0 _ _ c.requires.1 c.type_in-t.ensures c.quality_in-q.ensures in
    w.small

pub bounds-out-0 : goal.bounds-out-0
bounds-out-0 c = (space (format_of c.args.c.from) (format_of c.args.c.to) c.args.src.now c.args.out.now c.requires.0 c.requires.1).1

pub returns-then-from-gt-SID : goal.returns-then-from-gt-SID
returns-then-from-gt-SID c =
    λ x p.
    let a = c.args in
    let f = format_of a.c.from in
    let w = fronts f (format_of a.c.to) a.src.now a.out.now x _ _ p c.type_in-t.ensures c.quality_in-q.ensures in
    done_none f a.c.request a.src.now a.out.now a.out.now x _ _ _ w.type_is w.quality_is (search rules) (format_of a.c.to) p
    (omega arith) c.first_octet-first.ensures

pub move_core-requires : goal.move_core-requires
move_core-requires c =
    let f = format_of c.args.c.from in
    let w = fronts f (format_of c.args.c.to) c.args.src.now c.args.out.now c.requires.0 _ _ c.requires.1 c.type_in-t.ensures c.quality_in-q.ensures in
    rw c.from-2.ensures (omega arith, (c.requires.0, sym w.type_is, c.requires.1))

pub put_modes-requires : goal.put_modes-requires
put_modes-requires c =
    let a = c.args in
    let f = format_of a.c.from in
    let w = fronts f (format_of c.args.c.to) c.args.src.now c.args.out.now c.requires.0 _ _ c.requires.1 c.type_in-t.ensures c.quality_in-q.ensures in (
      le-leb c.type_in-t.result 9 (omega arith),
      w.small.1,
      omega (arith, c.indication_of.ensures, indication_small c.type_in-t.result (omega arith)),
      omega (arith, a.c.mode),
      omega (arith, if1_room f (format_of a.c.to) a.src.now a.out.now c.requires.0 _ (ap format_of c.in-If1.is) c.requires.1 w.type_is, c.move_core.auto.out),
    )

pub bounds-src-core_at : goal.bounds-src-core_at
bounds-src-core_at c =
    let a = c.args in
    let f = format_of a.c.from in
    let w = fronts f (format_of c.args.c.to) c.args.src.now c.args.out.now c.requires.0 _ _ c.requires.1 c.type_in-t.ensures c.quality_in-q.ensures in
    core_in_lem f (format_of a.c.to) a.src.now a.out.now c.requires.0 _ _ (ap format_of c.in-If2.is) c.requires.1 w.type_is (omega arith) c.core_at.ensures.0

pub overflow_add-out : goal.overflow_add-out
overflow_add-out c =
    let fo = c.first_octet-first in
    omega (arith, first_small _ _ fo.result (format_of c.args.c.to) (search rules) fo.ensures (ap format_of c.in-If2.is), (c.type_inv.src c.core_at.result).fits)

pub bounds-out-0-in-If2 : goal.bounds-out-0-in-If2
bounds-out-0-in-If2 c =
    omega (arith, (space (format_of c.args.c.from) (format_of c.args.c.to) c.args.src.now c.args.out.now c.requires.0 c.requires.1).1, c.move_core.auto.out)

pub bounds-out-0-in-Storage : goal.bounds-out-0-in-Storage
bounds-out-0-in-Storage c =
    omega (arith, (space (format_of c.args.c.from) (format_of c.args.c.to) c.args.src.now c.args.out.now c.requires.0 c.requires.1).1, c.move_core.auto.out)

pub returns-in-If1 : goal.returns-in-If1
returns-in-If1 c =
    λ x p.
    let a = c.args in
    let f = format_of a.c.from in
    let w = fronts f (format_of a.c.to) a.src.now a.out.now x _ _ p c.type_in-t.ensures c.quality_in-q.ensures in
    done_if1 f a.c.request a.src.now a.out.now c.move_core.new.out x _ c.quality_in-q.result c.first_octet-first.result w.type_is w.quality_is
    (search rules) (format_of a.c.to) c.indication_of.result _ (ap format_of c.in-If1.is) p (omega arith) c.indication_of.ensures (moved c.from-2.ensures c.move_core.ensures) c.put_modes.ensures

pub returns-in-If2 : goal.returns-in-If2
returns-in-If2 c =
    λ x p.
    let a = c.args in
    let f = format_of a.c.from in
    let fo = c.first_octet-first in
    let w = fronts f (format_of a.c.to) a.src.now a.out.now x _ _ p c.type_in-t.ensures c.quality_in-q.ensures in
    done_if2 f a.c.request a.src.now a.out.now c.move_core.new.out x _ _ fo.result w.type_is w.quality_is (search rules)
    (format_of a.c.to) c.core_at.result _ (λ k. search rules) (ap format_of c.in-If2.is) p (omega arith) fo.ensures c.core_at.ensures.0 refl (moved c.from-2.ensures c.move_core.ensures)

pub returns-in-Storage : goal.returns-in-Storage
returns-in-Storage c =
    λ x p.
    let a = c.args in
    let f = format_of a.c.from in
    let fo = c.first_octet-first in
    let w = fronts f (format_of a.c.to) a.src.now a.out.now x _ _ p c.type_in-t.ensures c.quality_in-q.ensures in
    done_storage f a.c.request a.src.now a.out.now c.move_core.new.out x _ _ fo.result w.type_is w.quality_is (search rules)
    (format_of a.c.to) (ap format_of c.in-Storage.is) p (omega arith) fo.ensures (moved c.from-2.ensures c.move_core.ensures)
