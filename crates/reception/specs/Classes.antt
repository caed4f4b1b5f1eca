-- What the code's reception classes say: document 01's class for each case.
use Rattle.std.specs.Prelude.{Result}
use Rattle.definitions.specs.Outcome.{Outcome}
use Rattle.definitions.specs.Reception as paper
use Rattle.frame.specs.Answers.{outcome_of}
use Rattle.frame.specs.declared.Refusal.{Refusal}
use Rattle.reception.specs.declared.SpeechClass.{SpeechClass}
use Rattle.reception.specs.declared.SpeechClass.TheVariants as speech_case
use Rattle.reception.specs.declared.SidClass.{SidClass}
use Rattle.reception.specs.declared.SidClass.TheVariants as sid_case
use Rattle.reception.specs.declared.Reception.{Reception}
use Rattle.reception.specs.declared.Reception.TheVariants as reception

abbrev pub speech_of : SpeechClass → paper.SpeechClass
speech_of speech_case.Good = paper.speech_good
speech_of speech_case.Bad = paper.speech_bad

abbrev pub sid_of : SidClass → paper.SidClass
sid_of sid_case.First = paper.sid_first
sid_of sid_case.Update = paper.sid_update
sid_of sid_case.Bad = paper.sid_bad

abbrev pub reception_of : Reception → paper.Reception
reception_of (reception.Speech s) = paper.speech (speech_of s)
reception_of (reception.Sid s) = paper.sid (sid_of s)
reception_of reception.SpeechLost = paper.speech_lost
reception_of reception.NoData = paper.no_data

abbrev pub classified_of : Result Reception Refusal → Outcome paper.Reception
classified_of = outcome_of reception_of
