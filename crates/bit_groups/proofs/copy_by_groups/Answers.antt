-- `bit_groups::copy_by_groups` meets its contract: two or four groups of 16 octets, the last of which ends the run; fewer are copied one by one.
-- Assumes nothing.
use Rattle.std.proofs.Common.{◌≡◌, ℕ, ◌+◌, ◌*◌, ◌-◌, ◌≤◌, length, take, drop, ap, sym, refl, ◌∙◌, arith, take_all}
use Rattle.bits.specs.Bits.{bits}
use Rattle.bits.proofs.BitLaws.{length-bits}
use Rattle.bit_groups.proofs.copy_by_groups.Goals as goal
use Rattle.bit_groups.proofs.copy_by_groups.Goals.{then-m-gt32, else-m-gt32}

pub returns : goal.returns
returns g c =
    let m = length c.args.dst.now in
    let s = drop g.row.A (bits c.args.src.now) in
    let d = c.copy_group-2.new.dst in
    let first = c.copy_group.ensures 0 (omega arith) refl in
    let there : (h : ℕ) × (length c.args.dst.now - 16 ≤ h) × (take (8 * h) (bits c.if-m-gt32.dst) ≡ take (8 * h) s) = elim c.if-m-gt32.branch [
      | then-m-gt32 w ↦ (
        m - 32 + 16,
        omega arith,
        rw w.dst-is (w.copy_group-then-m-gt32-2.ensures 32 (omega arith) (w.copy_group-then-m-gt32.ensures 16 (omega arith) first)),
      )
      | else-m-gt32 w ↦ (16, omega arith, rw w.dst-is first)
    ] in
    let all : 8 * (length c.args.dst.now - 16 + 16) ≡ 8 * length c.args.dst.now = omega arith in
    sym (take_all (8 * (m - 16 + 16)) (bits d) (omega (arith, length-bits d, c.copy_group-2.auto.dst)))
    ∙ c.copy_group-2.ensures there.0 there.1 there.2 ∙ ap (λ n. take n s) all
