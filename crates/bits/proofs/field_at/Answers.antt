-- `bits::field_at` meets its contract: the field lies within two octets, which are read as one number; past the end the second is 0. Assumes nothing.
use Rattle.std.proofs.Common.{◌≡◌, rules, arith, get_or, ◌+◌, ◌/◌}
use Rattle.std.proofs.lemmas.Grind.{common_steps}
use Rattle.std.proofs.lemmas.Option.{unwrap_or-slice_get}
use native.Mathlib.Nat.{lt_of_lt_of_le, lt_of_le_of_lt, le_of_eq}
use lib.Pow.{pow_mono}
use Rattle.bits.proofs.BitLaws.{num-lt}
use Rattle.bits.proofs.Masks.{read_is}
use Rattle.bits.proofs.field_at.Goals as goal

pub returns : goal.returns
returns c =
    let a = c.args in
    let lo_is : c.from-lo.result ≡ get_or a.s.now (a.from / 8 + 1) 0 = grind (arith, common_steps, unwrap_or-slice_get) in
    rw c.from-hi.ensures (read_is a.s.now a.from a.k c.from-lo.result (λ i. search rules) c.requires.0 c.requires.1 lo_is)

pub overflow_cast-result-2 : goal.overflow_cast-result-2
overflow_cast-result-2 c =
    let k = c.args.k in
    record { fits = lt_of_le_of_lt (le_of_eq (returns c)) (lt_of_lt_of_le (num-lt k _) (pow_mono {i = k} {j = 8} (search rules))) }
