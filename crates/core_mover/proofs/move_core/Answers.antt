-- `core_mover::move_core` meets its contract: each pair of formats has its move. Assumes nothing.
use Rattle.std.proofs.Common.{◌-◌, true, sym, refl, ◌∙◌, lit<}
use Rattle.std.proofs.lemmas.List.{take_rest}
use mathlib.Core.Bool.{not}
use lib.Dec.{eqb}
use Rattle.frame.specs.Answers.{format_of}
use Rattle.core_mover.proofs.CoreLaws.{if2_is, if2_not, some-octet, within, moves_up, moves_down, moves_whole, move_asks, move_gives}
use Rattle.core_mover.proofs.move_core.Goals as goal

pub slice_bounds-to-count : goal.slice_bounds-to-count
slice_bounds-to-count c =
    let a = c.args in
    let p = c.requires in
    rw c.core_at.ensures.0 (within (format_of a.f) (format_of a.g) a.t a.src.now a.out.now p.1.0 p.0 p.1.1 p.1.2).1

pub slice_bounds-to-start : goal.slice_bounds-to-start
slice_bounds-to-start c = slice_bounds-to-count c

-- ---- to IF2

pub slice_bounds-move_bits-count : goal.slice_bounds-move_bits-count
slice_bounds-move_bits-count c =
    let a = c.args in
    let p = c.requires in
    rw c.core_at-then-eq.ensures.0 (within (format_of a.f) (format_of a.g) a.t a.src.now a.out.now p.1.0 p.0 p.1.1 p.1.2).0

pub slice_bounds-move_bits-start : goal.slice_bounds-move_bits-start
slice_bounds-move_bits-start c = slice_bounds-move_bits-count c

pub overflow_sub-core_octets : goal.overflow_sub-core_octets
overflow_sub-core_octets c = rw c.core_octets.ensures (some-octet c.args.t c.requires.0).0

pub move_bits-requires : goal.move_bits-requires
move_bits-requires c =
    let a = c.args in
    let p = c.requires in
    let eg = if2_is a.g (sym c.eq.ensures ∙ c.if-eq.true) in
    let m = moves_up a.t p.0 (format_of a.f) (format_of a.g) c.core_at-then-eq.result c.core_octets.result eg (λ z. p.1.2.others (z ∙ sym eg)) c.core_at-then-eq.ensures.0 c.core_octets.ensures in
    move_asks (format_of a.f) (format_of a.g) a.t c.core_at-then-eq.result 3 (c.core_octets.result - 1) (not (eqb a.t 1)) p.0 m _ a.src.now a.out.now c.core_at.result
    (take_rest a.src.now c.core_at-then-eq.result) c.core_at.ensures.0 p.1.0 p.1.1 p.1.2 (lit< tt)

pub returns-then-eq : goal.returns-then-eq
returns-then-eq c x ex v =
    let a = c.args in
    let eg = if2_is a.g (sym c.eq.ensures ∙ c.if-eq.true) in
    let m = moves_up a.t c.requires.0 (format_of a.f) (format_of a.g) c.core_at-then-eq.result c.core_octets.result eg (λ z. v.others (z ∙ sym eg)) c.core_at-then-eq.ensures.0 c.core_octets.ensures in
    move_gives (format_of a.f) (format_of a.g) a.t c.core_at-then-eq.result 3 (c.core_octets.result - 1) (not (eqb a.t 1)) c.requires.0 m _ a.src.now a.out.now c.core_at.result
    (take_rest a.src.now c.core_at-then-eq.result) c.core_at.ensures.0 x ex v _ c.move_bits.ensures

-- ---- from IF2

pub overflow_sub-if2_octets : goal.overflow_sub-if2_octets
overflow_sub-if2_octets c = rw c.if2_octets.ensures (some-octet c.args.t c.requires.0).1

pub move_bits-requires-then-eq-2 : goal.move_bits-requires-then-eq-2
move_bits-requires-then-eq-2 c =
    let a = c.args in
    let p = c.requires in
    let m = moves_down a.t p.0 (format_of a.f) (format_of a.g) c.if2_octets.result (if2_is a.f (sym c.eq-else-eq.ensures ∙ c.if-eq-2.true)) (if2_not a.g (sym c.eq.ensures ∙ c.if-eq.false)) c.if2_octets.ensures in
    move_asks (format_of a.f) (format_of a.g) a.t 0 5 (c.if2_octets.result - 1) (eqb a.t 1) p.0 m a.src.now a.src.now a.out.now c.core_at.result
    refl c.core_at.ensures.0 p.1.0 p.1.1 p.1.2 (lit< tt)

pub returns-then-eq-2 : goal.returns-then-eq-2
returns-then-eq-2 c x ex v =
    let a = c.args in
    let m = moves_down a.t c.requires.0 (format_of a.f) (format_of a.g) c.if2_octets.result (if2_is a.f (sym c.eq-else-eq.ensures ∙ c.if-eq-2.true)) (if2_not a.g (sym c.eq.ensures ∙ c.if-eq.false)) c.if2_octets.ensures in
    move_gives (format_of a.f) (format_of a.g) a.t 0 5 (c.if2_octets.result - 1) (eqb a.t 1) c.requires.0 m a.src.now a.src.now a.out.now c.core_at.result
    refl c.core_at.ensures.0 x ex v _ c.move_bits-then-eq-2.ensures

-- ---- between IF1 and storage format

pub slice_bounds-move_bits-count-else-eq-2 : goal.slice_bounds-move_bits-count-else-eq-2
slice_bounds-move_bits-count-else-eq-2 c =
    let a = c.args in
    let p = c.requires in
    rw c.core_at-else-eq-2.ensures.0 (within (format_of a.f) (format_of a.g) a.t a.src.now a.out.now p.1.0 p.0 p.1.1 p.1.2).0

pub slice_bounds-move_bits-start-else-eq-2 : goal.slice_bounds-move_bits-start-else-eq-2
slice_bounds-move_bits-start-else-eq-2 c = slice_bounds-move_bits-count-else-eq-2 c

pub overflow_sub-core_octets-else-eq-2 : goal.overflow_sub-core_octets-else-eq-2
overflow_sub-core_octets-else-eq-2 c = rw c.core_octets-else-eq-2.ensures (some-octet c.args.t c.requires.0).0

pub move_bits-requires-else-eq-2 : goal.move_bits-requires-else-eq-2
move_bits-requires-else-eq-2 c =
    let a = c.args in
    let p = c.requires in
    let m = moves_whole a.t p.0 (format_of a.f) (format_of a.g) c.core_at-else-eq-2.result c.core_octets-else-eq-2.result (if2_not a.f (sym c.eq-else-eq.ensures ∙ c.if-eq-2.false)) (if2_not a.g (sym c.eq.ensures ∙ c.if-eq.false)) c.core_at-else-eq-2.ensures.0 c.core_octets-else-eq-2.ensures in
    move_asks (format_of a.f) (format_of a.g) a.t c.core_at-else-eq-2.result 0 (c.core_octets-else-eq-2.result - 1) true p.0 m _ a.src.now a.out.now c.core_at.result
    (take_rest a.src.now c.core_at-else-eq-2.result) c.core_at.ensures.0 p.1.0 p.1.1 p.1.2 (lit< tt)

pub returns-else-eq-2 : goal.returns-else-eq-2
returns-else-eq-2 c x ex v =
    let a = c.args in
    let m = moves_whole a.t c.requires.0 (format_of a.f) (format_of a.g) c.core_at-else-eq-2.result c.core_octets-else-eq-2.result (if2_not a.f (sym c.eq-else-eq.ensures ∙ c.if-eq-2.false)) (if2_not a.g (sym c.eq.ensures ∙ c.if-eq.false)) c.core_at-else-eq-2.ensures.0 c.core_octets-else-eq-2.ensures in
    move_gives (format_of a.f) (format_of a.g) a.t c.core_at-else-eq-2.result 0 (c.core_octets-else-eq-2.result - 1) true c.requires.0 m _ a.src.now a.out.now c.core_at.result
    (take_rest a.src.now c.core_at-else-eq-2.result) c.core_at.ensures.0 x ex v _ c.move_bits-else-eq-2.ensures
