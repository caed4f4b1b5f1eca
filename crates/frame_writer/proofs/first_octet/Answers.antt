-- `frame_writer::first_octet` meets its contract, format by format. Assumes nothing.
use mathlib.Core.Logic.{inl, inr}
use Rattle.frame_writer.proofs.WriterLaws.{first_if, first_storage}
use Rattle.frame_writer.proofs.first_octet.Goals as goal

pub returns-in-If1 : goal.returns-in-If1
returns-in-If1 c =
    let o = first_if c.args.t c.args.q c.requires.0 c.requires.1 in
    elim c.in-If1.is [ inl e ↦ rw e o | inr e ↦ rw e o ]

pub returns-in-Storage : goal.returns-in-Storage
returns-in-Storage c =
    rw c.in-Storage.is (first_storage c.args.t c.args.q c.requires.0 c.requires.1)
