-- `frame_reader::read_frame` meets its contract: the format, the frame and its core are judged one after the other. Assumes nothing.
use Rattle.std.proofs.Common.{rules}
use Rattle.frame_reader.proofs.CallLaws.{unknown_format, refused-frame, known-there, frame-out}
use Rattle.frame_reader.proofs.read_frame.Goals as goal

pub returns-in_err-f : goal.returns-in_err-f
returns-in_err-f c =
    let a = c.args in
    unknown_format a.format a.s.now a.core.now _ c.in_err-f.field-0.0 (search rules) c.in_err-f.ensures

pub returns-in_err-h : goal.returns-in_err-h
returns-in_err-h c =
    let a = c.args in
    refused-frame a.format a.s.now a.core.now c.in_ok-f.f c.in_ok-f.ensures _ c.in_err-h.field-0.0 (search rules) c.in_err-h.ensures

pub core_out-requires : goal.core_out-requires
core_out-requires c =
    let a = c.args in
    known-there a.format a.s.now a.core.now c.in_ok-f.f c.in_ok-f.ensures c.in_ok-h.h _ c.in_ok-h.ensures

pub returns : goal.returns
returns c =
    let a = c.args in
    frame-out a.format a.s.now a.core.now c.in_ok-f.f c.in_ok-f.ensures c.in_ok-h.h _ c.in_ok-h.ensures c.core_out.new.core c.core_out.result c.core_out.ensures
