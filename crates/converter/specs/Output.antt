-- What the conversion promises of its answer and of the output buffer.
use Rattle.std.specs.Prelude.{◌≡◌, List, ℕ, Result}
use Rattle.recordings.specs.Placed.{Placed}
use Rattle.recordings.specs.Conversion.{counted_at, buffer_after}
use Rattle.recording_reader.specs.Answers.{counts_of}
use Rattle.recording_reader.specs.declared.Counts.{Counts}
use Rattle.recording_reader.specs.declared.RefusedAt.{RefusedAt}

-- the output buffer is d₀ before the call and d after it
pub record IntoBuffer (o : Placed (ℕ × List ℕ)) (d₀ d : List ℕ) (a : Result Counts RefusedAt) : Type 0 where
  pub answer : counts_of a ≡ counted_at o
  pub buffer : d ≡ buffer_after o d₀
