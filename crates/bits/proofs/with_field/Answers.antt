-- `bits::with_field` meets its contract: the mask clears the field, and the shifted number goes into it. Assumes nothing.
use native.Mathlib.Omega.{arith}
use Rattle.bits.proofs.Masks.{shifted_ones-le, put_code_is, put-digits, put-lt}
use Rattle.bits.specs.Bits.{digits}
use mathlib.Core.Path.{ap, ◌∙◌}
use Prim.Native.Nat.{ℕ, ◌-◌}
use Rattle.bits.proofs.with_field.Goals as goal

pub overflow_sub-kept : goal.overflow_sub-kept
overflow_sub-kept c = shifted_ones-le c.args.k (8 - c.args.a - c.args.k) (omega arith)

pub overflow_cast-result-2 : goal.overflow_cast-result-2
overflow_cast-result-2 c =
    let k = c.args.k in
    let b : ℕ = 8 - c.args.a - c.args.k in
    record { fits = rw (c.from.ensures, c.from-2.ensures, put_code_is k b c.args.x c.args.v (omega arith) c.requires.1) (put-lt c.args.a k b c.args.x c.args.v (omega arith) c.requires.1 c.ranges.x.fits) }

pub returns : goal.returns
returns c =
    let k = c.args.k in
    let b : ℕ = 8 - c.args.a - c.args.k in
    rw (c.from.ensures, c.from-2.ensures)
    (ap (digits 8) (put_code_is k b c.args.x c.args.v (omega arith) c.requires.1) ∙ put-digits c.args.a k b c.args.x c.args.v (omega arith) c.requires.1)
