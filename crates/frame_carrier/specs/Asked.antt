-- What a conversion is asked for: by the call's numbers, and as the code holds it.
use Rattle.std.specs.Prelude.{ℕ, leb, Result}
use Rattle.definitions.specs.Outcome.{Outcome, ok, unless, and_then}
use Rattle.definitions.specs.Frames.{Format, highest_mode}
use Rattle.definitions.specs.Reading.{format_numbered}
use Rattle.frame.specs.Answers.{format_of, outcome_of}
use Rattle.frame.specs.declared.Refusal.{Refusal}
use Rattle.frame_carrier.specs.declared.conversion.Conversion.{Conversion}

-- two formats and a request by their numbers; 11 for a number out of range
abbrev pub asked : (from to request : ℕ) → Outcome (Format × Format × ℕ)
asked from to request = and_then (format_numbered from) (λ f. and_then (format_numbered to) (λ g. unless 11 (leb request highest_mode) (ok (f, g, request))))

abbrev pub asked_of : Result Conversion Refusal → Outcome (Format × Format × ℕ)
asked_of = outcome_of (λ c. (format_of c.from, format_of c.to, c.request))
