-- `viewer::Viewer::open` meets its contract: the format is judged, then the front. Assumes nothing.
use mathlib.Core.Path.{◌≡◌, ap, ◌∙◌}
use Rattle.std.proofs.Common.{rules, Err}
use Rattle.definitions.specs.Outcome.{ok}
use Rattle.definitions.specs.Reading.{format_numbered}
use Rattle.recordings.specs.Viewer.{open_call}
use Rattle.frame.specs.Answers.{format_of}
use Rattle.recording_reader.specs.Answers.{placed_of}
use Rattle.recording_reader.proofs.CallLaws.{front_refused}
use Rattle.viewer.specs.Answers.{number_and_offset}
use Rattle.viewer.specs.declared.Viewer.{Viewer}
use Rattle.viewer.proofs.Viewer.open.Goals as goal

pub returns-in_err-judge_front-clause-place : goal.returns-in_err-judge_front-clause-place
unfolding open_call
returns-in_err-judge_front-clause-place c =
    let known : format_numbered c.args.format ≡ ok (format_of c.in_ok-f.f) = search rules in
    let is : c.from_residual-in_err-judge_front.result ≡ Err c.in_err-judge_front.field-0.0 = search rules in
    rw known (ap (placed_of (λ (v : Viewer). number_and_offset v.place)) is ∙ front_refused _ _ _ _ _ tt _ c.in_err-judge_front.ensures)
