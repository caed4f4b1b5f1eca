-- `recording_reader::read_all` meets its contract: a refusal in front of the frames is the recording's. Assumes nothing.
use mathlib.Core.Path.{◌≡◌, ap, ◌∙◌}
use Rattle.std.proofs.Common.{rules, Err}
use Rattle.recordings.specs.Recordings.{read_recording}
use Rattle.frame.specs.Answers.{format_of}
use Rattle.recording_reader.specs.Answers.{counts_of}
use Rattle.recording_reader.proofs.ScanLaws.{total}
use Rattle.recording_reader.proofs.CallLaws.{front_refused}
use Rattle.recording_reader.proofs.read_all.Goals as goal

pub returns-in_err-judge_front : goal.returns-in_err-judge_front
unfolding read_recording
returns-in_err-judge_front c r =
    let is : c.from_residual.result ≡ Err c.in_err-judge_front.field-0.0 = search rules in
    ap counts_of is ∙ ap (total (format_of c.args.f) (format_of c.args.g) r) (front_refused _ _ _ _ _ tt _ c.in_err-judge_front.ensures)
