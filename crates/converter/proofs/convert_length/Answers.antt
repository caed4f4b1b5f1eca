-- `converter::convert_length` meets its contract: 11, and then what is judged before the room. Assumes nothing.
use borrow.Author.Rules.{rules}
use mathlib.Core.Path.{◌≡◌, ap, ◌∙◌}
use Rattle.std.specs.Prelude.{Err}
use Rattle.frame.specs.Answers.{format_of}
use Rattle.recording_reader.specs.Answers.{outside, counts_of}
use Rattle.converter.proofs.CallLaws.{length_refused, length_passes}
use Rattle.converter.proofs.convert_length.Goals as goal

pub returns-in_err-c : goal.returns-in_err-c
returns-in_err-c c =
    let a = c.args in
    let e : c.from_residual.result ≡ Err (outside c.in_err-c.field-0.0) = search rules in
    ap counts_of e ∙ length_refused a.from a.to a.request a.s.now _ c.in_err-c.ensures

pub returns : goal.returns
returns c =
    let a = c.args in
    let k = c.in_ok-c.c in
    c.measure.ensures k.request ∙ length_passes a.from a.to a.request a.s.now (format_of k.from) (format_of k.to) k.request c.in_ok-c.ensures
