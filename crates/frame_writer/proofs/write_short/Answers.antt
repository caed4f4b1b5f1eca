-- `frame_writer::write_short` meets its contract: the header octet is stored, and the core put behind its header bits. Assumes nothing.
use mathlib.Core.Path.{ap, ◌∙◌}
use native.Mathlib.Omega.{arith}
use lib.ListN.{length-set}
use Rattle.frame.specs.Answers.{format_of}
use Rattle.definitions.specs.Frames.{core_bits, header_bits}
use Rattle.definitions.proofs.Tables.{known-below, sized}
use Rattle.frame.proofs.TableLaws.{room}
use Rattle.frame_writer.proofs.WriterLaws.{short_is}
use Rattle.frame_writer.proofs.write_short.Goals as goal

pub first_octet-requires : goal.first_octet-requires
first_octet-requires c =
    let w = c.requires.0 in
    (known-below _ w.type_known, w.quality_bit)

pub bounds-out-0 : goal.bounds-out-0
bounds-out-0 c =
    let w = c.requires.0 in
    let z = (sized (format_of c.args.f) c.args.h.frame_type w.type_known).some-octet in
    omega (arith, w.room)

pub core_bits-requires : goal.core_bits-requires
core_bits-requires c = rw c.from-t.ensures (known-below _ c.requires.0.type_known)

pub put_run-requires : goal.put_run-requires
put_run-requires c =
    let w = c.requires.0 in
    let p = room (format_of c.args.f) c.args.h.frame_type w.type_known in
    let k = c.core_bits.ensures.0 ∙ ap core_bits c.from-t.ensures in
    let hb = c.header_bits.ensures.0 ∙ ap (header_bits (format_of c.args.f)) c.from-t.ensures in
    let l = length-set c.args.out.now 0 c.first_octet.result in
    (omega (arith, w.core_there), omega (arith, w.room), omega (arith, w.core_near), omega arith)

pub shape_of-out : goal.shape_of-out
shape_of-out c =
    let a = c.args in
    c.put_run.auto.dst ∙ length-set a.out.now 0 c.first_octet.result

pub returns : goal.returns
returns c =
    let a = c.args in
    let o = c.first_octet in
    let k = c.core_bits in
    let hb = c.header_bits in
    let r = c.put_run in
    short_is (format_of a.f) a.h a.src.now a.from a.out.now r.new.dst o.result k.result hb.result c.requires.0 c.requires.1
    o.ensures (k.ensures.0 ∙ ap core_bits c.from-t.ensures) (hb.ensures.0 ∙ ap (header_bits (format_of a.f)) c.from-t.ensures) r.ensures
