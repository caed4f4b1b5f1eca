-- `bits::put_last` meets its contract: eight bits are read, and all but the first k made 0, as `last_octet` says. Assumes nothing.
use Rattle.bits.proofs.BitLaws.{last_octet}
use Rattle.bits.proofs.put_last.Goals as goal

pub returns-then-k-gt0 : goal.returns-then-k-gt0
returns-then-k-gt0 c =
    let a = c.args in
    last_octet a.src.now a.dst.now a.from a.k a.j c.field_at.result c.with_field.result c.if-k-gt0.true
    c.requires.0 c.requires.1 c.requires.2 c.field_at.ensures c.with_field.ensures
