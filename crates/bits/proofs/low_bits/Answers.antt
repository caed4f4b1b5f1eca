-- `bits::low_bits` meets its contract: the mask keeps the octet's k low bits, which are the last k of its eight. Assumes nothing.
use Rattle.bits.proofs.Masks.{low_is}
use Rattle.bits.proofs.low_bits.Goals as goal

pub returns : goal.returns
returns c =
    let a = c.args in
    let p = c.requires in
    rw c.from.ensures (low_is a.s.now a.n a.k p.0 p.1 p.2)
