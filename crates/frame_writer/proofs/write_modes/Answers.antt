-- `frame_writer::write_modes` meets its contract: the core is put behind 24 bits, and the header in front of it. Assumes nothing.
use borrow.Author.Rules.{rules}
use mathlib.Core.Path.{ap, ◌∙◌}
use native.Mathlib.Omega.{arith}
use lib.ListN.{take, drop}
use Rattle.bits.specs.Bits.{bits, Octets}
use Rattle.definitions.specs.Frames.{if1, core_bits, octets}
use Rattle.frame.proofs.TableLaws.{modes_carried, room}
use Rattle.frame_writer.proofs.WriterLaws.{core-size, three-there, core-put}
use Rattle.frame_writer.proofs.write_modes.Goals as goal

pub put_run-requires : goal.put_run-requires
put_run-requires c =
    let w = c.requires.0 in
    let t = c.args.h.frame_type in
    let p = room if1 t w.type_known in
    let m = modes_carried if1 t w.type_known c.requires.1 in
    let k = c.core_bits.ensures.0 ∙ ap core_bits c.from.ensures in
    (omega (arith, w.core_there), omega (arith, w.room), omega (arith, w.core_near), omega arith)

pub returns : goal.returns
returns c =
    let a = c.args in
    let w = c.requires.0 in
    let r = c.put_run in
    let k = c.core_bits in
    let o : Octets a.out.now = λ i. search rules in
    let put = core-put a.h a.src.now a.from a.out.now w c.requires.1 r.new.dst k.result o (k.ensures.0 ∙ ap core_bits c.from.ensures) r.ensures in
    c.put_modes.ensures (take 3 a.out.now) (drop (octets if1 a.h.frame_type) a.out.now) (take (core_bits a.h.frame_type) (drop a.from (bits a.src.now))) (three-there a.h a.src.now a.from a.out.now w c.requires.1) (core-size a.h a.src.now a.from a.out.now w c.requires.1) put
