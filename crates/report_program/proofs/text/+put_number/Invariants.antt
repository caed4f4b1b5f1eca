-- `report_program::text::put_number` ends: it calls itself for the tenth part. Assumes nothing.
use Rattle.report_program.proofs.text.+put_number.Given as goal

abbrev pub decreases-put_number : goal.decreases-put_number
decreases-put_number l = l.n
