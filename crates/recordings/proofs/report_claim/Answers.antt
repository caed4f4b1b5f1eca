-- The report counts the frames that are read, each in one class, and two wrong reports do not. Assumes nothing.
use Rattle.recordings.proofs.Report.{adds_up, reports}
use Rattle.recordings.proofs.WrongReports.{lost_before_reading_lem, counts_as_speech_lem}
use Rattle.recordings.proofs.report_claim.Goals as goal

pub returns : goal.returns
returns c = (adds_up, reports, lost_before_reading_lem, counts_as_speech_lem)
