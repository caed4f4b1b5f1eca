-- `frame_tests::sid_mode` meets its contract: the core of a SID frame has 40 bits. Assumes nothing.
use mathlib.Core.Path.{ap, ◌∙◌}
use Prim.Native.Nat.{◌+◌}
use native.Mathlib.Omega.{arith}
use lib.ListN.{drop}
use Rattle.bits.specs.Bits.{num, bits}
use Rattle.frame.specs.Answers.{format_of}
use Rattle.frame.proofs.TableLaws.{room, sid-core, sid-known}
use Rattle.frame_tests.proofs.TestLaws.{sid_is}
use Rattle.frame_tests.proofs.sid_mode.Goals as goal

pub field_at-requires : goal.field_at-requires
field_at-requires c =
    let p = room (format_of c.args.f) 9 sid-known in
    let k = sid-core in
    (omega arith, omega arith)

pub returns : goal.returns
returns c =
    let a = c.args in
    c.field_at.ensures ∙ ap (λ h. num 4 (drop (h + 36) (bits a.s.now))) c.header_bits.ensures.0 ∙ sid_is (format_of a.f) (bits a.s.now)
