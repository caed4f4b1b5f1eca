-- What a call that makes one recording of two answers: a value, or a refusal by its number, with its place and the recording that is refused, 0 the
-- first and 1 the second. Of a refusal that concerns neither of them, by 11, by 9 for the result or by 10, all three are 0.
use Rattle.std.specs.Prelude.{List, ℕ, length}
use Rattle.definitions.specs.Reading.{overwritten}
use Rattle.recordings.specs.Placed.{Placed, refused_at, done}

pub data Joined (A : Type 0) : Type 0 where
  refused_in : (recording number frame octet : ℕ) → Joined A
  made : A → Joined A

-- what follows on a value; a refusal is handed on as one of this recording
abbrev pub in_recording : {A B : Type 0} → (recording : ℕ) → Placed A → (A → Joined B) → Joined B
in_recording i (refused_at n k at) next = refused_in i n k at
in_recording i (done a) next = next a

-- frames of the result and how many octets: the answer of a call that writes the octets
abbrev pub counted_in : Joined (ℕ × List ℕ) → Joined (ℕ × ℕ)
counted_in (refused_in i n k at) = refused_in i n k at
counted_in (made y) = made (y.0, length y.1)

-- the output buffer after it; a refused call leaves it
abbrev pub joined_after : Joined (ℕ × List ℕ) → List ℕ → List ℕ
joined_after (refused_in i n k at) d = d
joined_after (made y) d = overwritten y.1 d
