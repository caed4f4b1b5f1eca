-- `parity::crc_of` meets its contract: `r` is the CRC of the whole octets so far, and then of the first i bits. Assumes nothing.
use Rattle.std.proofs.Common.{◌≡◌, [], ◌∷◌, ◌++◌, ◌*◌, ◌/◌, take, sym, refl, ap, ◌∙◌, arith, length-take, take-take}
use Rattle.bits.specs.Bits.{bits, num}
use Rattle.bits.proofs.BitLaws.{bits-take}
use Rattle.parity.specs.Crc.{crc}
use Rattle.parity.proofs.Octets.{take-octet, take_bit}
use Rattle.parity.proofs.crc_of.Goals as goal

pub loop-x-init : goal.loop-x-init
unfolding num crc
loop-x-init c = refl

pub loop-x-preserved : goal.loop-x-preserved
loop-x-preserved c =
    let l = c.loop-x in
    let s = take (c.args.n / 8) c.args.core.now in
    c.take_octet-r.ensures (take (8 * l.x-index) (bits s)) l.invariant ∙ ap (λ w. num 8 (crc w)) (sym (take-octet s l.x-index c.loop-x-test.true))

pub loop-i-init : goal.loop-i-init
loop-i-init c =
    let k = c.args.n / 8 in
    let core = c.args.core.now in
    let all : 8 * c.loop-x.x-index ≡ 8 * (c.args.n / 8) = omega (arith, length-take k core, c.loop-x.auto.x-index-end) in
    c.loop-x.invariant ∙ ap (λ w. num 8 (crc w))
    (ap (λ n. take n (bits (take k core))) all ∙ ap (take (8 * k)) (bits-take k core) ∙ take-take (8 * k) (8 * k) (bits core) (omega arith))

pub loop-i-preserved : goal.loop-i-preserved
loop-i-preserved c =
    let l = c.loop-i in
    let core = c.args.core.now in
    c.take_bit-r.ensures (take l.i (bits core)) l.invariant
    ∙ ap (λ b. num 8 (crc (take l.i (bits core) ++ b ∷ []))) c.bit_at.ensures
    ∙ ap (λ w. num 8 (crc w)) (sym (take_bit core l.i (omega arith)))
