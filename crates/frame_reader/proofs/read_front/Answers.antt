-- `frame_reader::read_front` meets its contract: a plain frame is what the reader shows. Assumes nothing.
use mathlib.Core.Path.{refl}
use Rattle.frame.specs.Answers.{format_of}
use Rattle.frame_reader.proofs.ReaderLaws.{plain_reads}
use Rattle.frame_reader.proofs.read_front.Goals as goal

pub returns-in-Some : goal.returns-in-Some
returns-in-Some c =
    let a = c.args in
    plain_reads (format_of a.f) a.s.now c.in-Some.n c.in-Some.ensures _ c.type_in.ensures c.quality_in.ensures refl refl
