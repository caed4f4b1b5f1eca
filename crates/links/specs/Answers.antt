-- What the code's answers say: document 01's number for each FQC, and what a `Result` of one says.
use Rattle.std.specs.Prelude.{ℕ, Result}
use Rattle.definitions.specs.Outcome.{Outcome}
use Rattle.frame.specs.declared.Refusal.{Refusal}
use Rattle.frame.specs.Answers.{outcome_of}
use Rattle.links.specs.declared.Fqc.{Fqc}
use Rattle.links.specs.declared.Fqc.TheVariants.{Good, Bad, BadRadio, Reserved}

abbrev pub fqc_number : Fqc → ℕ
fqc_number Good = 0
fqc_number Bad = 1
fqc_number BadRadio = 2
fqc_number Reserved = 3

abbrev pub numbered_of : Result Fqc Refusal → Outcome ℕ
numbered_of = outcome_of fqc_number
