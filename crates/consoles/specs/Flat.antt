-- The answers of the consoles' calls as numbers. Every field that is not named for an answer is 0; frame and octet always are.
use Rattle.std.specs.Prelude.{ℕ}
use Rattle.consoles_spec.specs.declared.Consoles.{Consoles}
use Rattle.consoles_spec.specs.Calls.{Reply, refusal, taken, served, nobody}
use Rattle.consoles.specs.declared.ConsolesAnswer.{ConsolesAnswer}

abbrev pub answer_by : (refusal served console : ℕ) → Consoles → ConsolesAnswer
answer_by n v c s = record { refusal = n; frame = 0; octet = 0; served = v; console = c; consoles = s }

-- served is 1 and console its number where a console was served, else both are 0
abbrev pub consoles_numbers : Reply × Consoles → ConsolesAnswer
consoles_numbers (refusal n, s) = answer_by n 0 0 s
consoles_numbers (taken, s) = answer_by 0 0 0 s
consoles_numbers (served c, s) = answer_by 0 1 c s
consoles_numbers (nobody, s) = answer_by 0 0 0 s
