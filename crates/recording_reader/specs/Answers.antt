-- What the answer of a call over a recording says: document 01's number with its place, or what the answer's value says.
use Rattle.std.specs.Prelude.{ℕ, Result, Ok, Err}
use Rattle.recordings.specs.Placed.{Placed, refused_at, done}
use Rattle.frame.specs.Answers.{number_of}
use Rattle.frame.specs.declared.Refusal.{Refusal}
use Rattle.recording_reader.specs.declared.Counts.{Counts}
use Rattle.recording_reader.specs.declared.RefusedAt.{RefusedAt}

-- a refusal outside the frames
abbrev pub outside : Refusal → RefusedAt
outside e = record { refusal = e; frame = 0; octet = 0 }

-- what the value says, or the refusal's number, frame and octet
abbrev pub placed_of : {A B : Type 0} → (A → B) → Result A RefusedAt → Placed B
placed_of says (Ok x) = done (says x)
placed_of says (Err e) = refused_at (number_of e.refusal) e.frame e.octet

-- frames and octets
abbrev pub counts_of : Result Counts RefusedAt → Placed (ℕ × ℕ)
counts_of = placed_of (λ c. (c.frames, c.octets))
