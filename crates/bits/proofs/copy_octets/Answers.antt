-- `bits::copy_octets` meets its contract: octets that begin at a border go over whole, and each other is made of two neighbours. Assumes nothing.
use Rattle.std.proofs.Common.{◌≡◌, ◌+◌, ◌*◌, ◌-◌, ◌/◌, ◌%◌, ◌^◌, ◌<◌, ℕ, List, length, get_or, take, drop, bit_or, sym, ap, ◌∙◌, arith, rules, add-one, length-drop, take_all, drop-drop}
use Rattle.bits.specs.Bits.{bits, num, Octets}
use Rattle.bits.proofs.BitLaws.{length-bits, bits-take, window_field, octet_next}
use Rattle.bits.proofs.Masks.{shifted_is}
use Rattle.bits.proofs.copy_octets.Goals as goal

pub returns-then-a-eq0 : goal.returns-then-a-eq0
returns-then-a-eq0 c = rw c.if-a-eq0.true (ap bits c.copy.ensures ∙ bits-take (length c.args.dst.now) c.args.src.now)

-- what a turn stores
octet_is : (s : List ℕ) (a t : ℕ) → Octets s → a < 8 → t < length s
    → bit_or (get_or s t 0 * 2 ^ a % 2 ^ 8) (get_or s (t + 1) 0 / 2 ^ (8 - a)) ≡ num 8 (drop (8 * t) (drop a (bits s)))
octet_is s a t o ha h =
    let at : 8 * t + a ≡ a + 8 * t = omega arith in
    shifted_is a (8 - a) (get_or s t 0) (get_or s (t + 1) 0) (omega arith) (o (t + 1))
    ∙ ap (λ (n : ℕ). (get_or s t 0 * 2 ^ 8 + get_or s n 0) / 2 ^ (8 - a) % 2 ^ 8) (add-one t)
    ∙ sym (window_field t a 8 (8 - a) s o h (omega arith) (omega arith))
    ∙ ap (λ (n : ℕ). num 8 (drop n (bits s))) at ∙ ap (num 8) (sym (drop-drop (8 * t) a (bits s)))

pub loop-t-preserved : goal.loop-t-preserved
loop-t-preserved c =
    let a = c.args in
    let l = c.loop-t in
    octet_next (drop a.a (bits a.src.now)) l.dst l.t _ (omega arith) (omega (arith, length-drop a.a (bits a.src.now), length-bits a.src.now))
    (octet_is a.src.now a.a l.t (λ k. search rules) c.requires.0 (omega arith)) l.invariant

pub returns : goal.returns
returns c =
    let d = c.loop-t.dst in
    let s = drop c.args.a (bits c.args.src.now) in
    let e : 8 * c.loop-t.t ≡ 8 * length c.args.dst.now = omega arith in
    sym (take_all (8 * c.loop-t.t) (bits d) (omega (arith, length-bits d))) ∙ c.loop-t.invariant ∙ ap (λ n. take n s) e
