-- `core_mover::move_bits` meets its contract: octets that are windows of the core, and the last one filled with zeros. Assumes nothing.
use Rattle.std.proofs.Common.{◌≡◌, ◌++◌, ◌+◌, ◌*◌, length, get_or, take, drop, ap, sym, ◌∙◌, arith, rules}
use lib.ListN.{length-take}
use Rattle.bits.specs.Bits.{bits, one_if, packs}
use Rattle.core_mover.proofs.MoveLaws.{moved, moved_last}
use Rattle.core_mover.proofs.PackLaws.{shifts}
use Rattle.core_mover.proofs.move_bits.Goals as goal

pub returns-then-last : goal.returns-then-last
returns-then-last g c w z r e =
    let a = c.args in
    let A = g.row.A in
    let s = a.src.now in
    let one = ap one_if c.if-last.true in
    let all : 8 * length (take a.c a.out.now) ≡ 8 * a.c = omega (arith, length-take a.c a.out.now) in
    let d = moved s A a.c w z r e c.requires.0 c.requires.1 c.copy_by_groups.new.dst (drop a.c a.out.now) (λ k. search rules) (c.copy_by_groups.ensures ∙ ap (λ n. take n (drop A (bits s))) all) in
    moved_last s A a.c w z r e c.requires.0 c.requires.1 c.copy_by_groups.new.dst a.out.now _ d (shifts A (get_or s a.c 0) c.requires.0 (c.type_inv.src a.c).fits) (omega (arith, one))
    ∙ sym (ap (λ k. packs (a.c + k) w ++ drop (a.c + k) a.out.now) one)

pub returns-else-last : goal.returns-else-last
returns-else-last g c w z r e =
    let a = c.args in
    let A = g.row.A in
    let s = a.src.now in
    let none = ap one_if c.if-last.false in
    let all : 8 * length (take a.c a.out.now) ≡ 8 * a.c = omega (arith, length-take a.c a.out.now) in
    let k : a.c ≡ a.c + one_if a.last = omega (arith, none) in
    ap (λ d. d ++ drop a.c a.out.now)
    (moved s A a.c w z r e c.requires.0 c.requires.1 c.copy_by_groups.new.dst (drop a.c a.out.now) (λ k. search rules) (c.copy_by_groups.ensures ∙ ap (λ n. take n (drop A (bits s))) all))
    ∙ ap (λ k. packs k w ++ drop k a.out.now) k
