-- `recording_reader::validate` meets its contract: the format is judged, then the recording. Assumes nothing.
use mathlib.Core.Path.{◌≡◌, ap, ◌∙◌}
use Rattle.std.proofs.Common.{rules}
use Rattle.definitions.specs.Outcome.{ok}
use Rattle.definitions.specs.Reading.{format_numbered}
use Rattle.recordings.specs.Recordings.{validate_call, read_recording}
use Rattle.frame.specs.Answers.{format_of}
use Rattle.recording_reader.specs.Answers.{counts_of}
use Rattle.recording_reader.proofs.CallLaws.{refused_frames, counted_frames}
use Rattle.recording_reader.proofs.validate.Goals as goal

pub returns-in_err-counts : goal.returns-in_err-counts
unfolding validate_call
returns-in_err-counts c =
    let a = c.args in
    let f = format_of c.in_ok-f.f in
    let known : format_numbered a.format ≡ ok f = search rules in
    let is : c.from_residual-in_err-counts.result ≡ c.read_all.result = search rules in
    rw known (ap counts_of is ∙ refused_frames f (read_recording f a.s.now) c.read_all.result _ c.in_err-counts.was (c.read_all.ensures 0))

pub returns : goal.returns
unfolding validate_call
returns c =
    let a = c.args in
    let f = format_of c.in_ok-f.f in
    let known : format_numbered a.format ≡ ok f = search rules in
    rw known (counted_frames f (read_recording f a.s.now) c.read_all.result c.in_ok-counts.counts c.in_ok-counts.was (c.read_all.ensures 0))
