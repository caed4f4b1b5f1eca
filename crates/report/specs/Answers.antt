-- What the code's report says: document 01's counts, or its number of the refusal with the place.
use Rattle.std.specs.Prelude.{Result}
use Rattle.recordings.specs.Placed.{Placed}
use Rattle.recordings.specs.Report as paper
use Rattle.recording_reader.specs.Answers.{placed_of}
use Rattle.recording_reader.specs.declared.RefusedAt.{RefusedAt}
use Rattle.report.specs.declared.Report.{Report}

abbrev pub report_counts : Report → paper.Report
report_counts r = record {
  octets = r.octets;
  frames = r.frames;
  speech = r.speech;
  sid = r.sid;
  speech_lost = r.speech_lost;
  no_data = r.no_data;
}

abbrev pub reported_of : Result Report RefusedAt → Placed paper.Report
reported_of = placed_of report_counts
