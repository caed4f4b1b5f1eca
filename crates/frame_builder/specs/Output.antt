-- What a call that builds a frame promises of its answer and of the output buffer.
use Rattle.std.specs.Prelude.{◌≡◌, List, ℕ, Result}
use Rattle.definitions.specs.Outcome.{Outcome}
use Rattle.definitions.specs.Reading.{counted, output_after}
use Rattle.frame.specs.Answers.{built_of}
use Rattle.frame.specs.declared.Refusal.{Refusal}

-- the output buffer is d₀ before the call and d after it
pub record IntoOutput (o : Outcome (List ℕ)) (d₀ d : List ℕ) (r : Result ℕ Refusal) : Type 0 where
  pub answer : built_of r ≡ counted o
  pub buffer : d ≡ output_after o d₀
