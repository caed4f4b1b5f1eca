-- `frame_builder::build` meets its contract: what is judged good is written, and nothing else. Assumes nothing.
use Rattle.frame.specs.Answers.{format_of}
use Rattle.frame_builder.proofs.BuilderLaws.{writable, built_frame}
use Rattle.frame_builder.proofs.build.Goals as goal

pub write_frame-requires : goal.write_frame-requires
write_frame-requires c =
    let a = c.args in
    writable (format_of a.f) a.t a.q a.i a.r a.core.now a.out.now c.in_ok-h.h c.in_ok-h.n c.in_ok-h.ensures

pub returns : goal.returns
returns c =
    let a = c.args in
    built_frame (format_of a.f) a.t a.q a.i a.r a.core.now a.out.now c.in_ok-h.h c.in_ok-h.n c.in_ok-h.ensures c.write_frame.new.out c.write_frame.ensures
