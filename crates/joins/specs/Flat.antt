-- The answer of a call that makes one recording of two, as numbers. At a refusal every field but its number, its place and its recording is 0.
use Rattle.std.specs.Prelude.{◌≡◌, List, ℕ}
use Rattle.joins_spec.specs.Joined.{Joined, refused_in, made, counted_in, joined_after}
use Rattle.joins.specs.declared.JoinedAnswer.{JoinedAnswer}

abbrev pub joined_numbers : Joined (ℕ × ℕ) → JoinedAnswer
joined_numbers (refused_in i n k at) = record { refusal = n; frame = k; octet = at; recording = i; frames = 0; octets = 0 }
joined_numbers (made y) = record { refusal = 0; frame = 0; octet = 0; recording = 0; frames = y.0; octets = y.1 }

-- the answer, and the output buffer, d₀ before and d after the call
pub record FlatJoined (o : Joined (ℕ × List ℕ)) (d₀ d : List ℕ) (r : JoinedAnswer) : Type 0 where
  pub answer : r ≡ joined_numbers (counted_in o)
  pub buffer : d ≡ joined_after o d₀
