-- `bit_groups::copy_group` meets its contract: the group comes to an array, and from there to its place, as `octets_next` says. Assumes nothing.
use Rattle.std.proofs.Common.{◌≡◌, ◌+◌, ◌*◌, ◌-◌, length, take, drop, ap, sym, refl, ◌∙◌, arith, length-drop, drop-drop, take_all}
use Rattle.bits.specs.Bits.{bits}
use Rattle.bits.proofs.BitLaws.{bits-drop, octets_next}
use Rattle.bit_groups.proofs.copy_group.Goals as goal

pub returns : goal.returns
returns g c h hj e =
    let a = c.args in
    let s = a.src.now in
    let A = g.row.A in
    let x = c.copy.new.dst in
    let same = c.copy.ensures in
    let place : 8 * a.at + A ≡ A + 8 * a.at = omega arith in
    let from : drop A (bits (take (length s - a.at) (drop a.at s))) ≡ drop (8 * a.at) (drop A (bits s)) =
    ap (λ l. drop A (bits l)) (take_all (length s - a.at) (drop a.at s) (omega (arith, length-drop a.at s)))
    ∙ ap (drop A) (bits-drop a.at s) ∙ drop-drop A (8 * a.at) (bits s) ∙ ap (λ k. drop k (bits s)) place ∙ sym (drop-drop (8 * a.at) A (bits s)) in
    octets_next (drop A (bits s)) a.dst.now x (drop (a.at + 16 - a.at) (drop a.at a.dst.now)) h a.at 16 (a.at + 16) hj (omega arith) refl
    (omega (arith, ap length same, c.copy_octets.auto.dst)) (ap bits same ∙ c.copy_octets.ensures ∙ ap (take (8 * 16)) from) e
