-- What the answers of the consoles' calls say: the papers' number and values for each case.
use Rattle.std.specs.Prelude.{Option, Some, None, Result, Ok, Err}
use Rattle.frame.specs.declared.Refusal.{Refusal}
use Rattle.frame.specs.Answers.{number_of}
use Rattle.consoles_spec.specs.declared.Consoles.{Consoles}
use Rattle.consoles_spec.specs.Calls.{Reply, refusal, taken, served, nobody}
use Rattle.consoles.specs.declared.Served.{Served}

-- what an add answers, and the state after it: the answer's, or after a refusal the caller's
abbrev pub added_of : Consoles → Result Consoles Refusal → Reply × Consoles
added_of s (Ok t) = (taken, t)
added_of s (Err e) = (refusal (number_of e), s)

-- whom a slot served, and the state after it: the answer's, or the caller's where nobody waits
abbrev pub served_of : Consoles → Option Served → Reply × Consoles
served_of s (Some t) = (served t.console, t.consoles)
served_of s None = (nobody, s)
