-- What a call over a recording answers: a value, or a refusal by its number with its place (document 01, "Order": "It carries frame and
-- octet"). The frame is counted from 0; the octet is where the frame begins, counted from 0 at the recording's start.
use Rattle.std.specs.Prelude.{Bool, true, false, ℕ}
use Rattle.definitions.specs.Outcome.{Outcome, refused, ok}

pub data Placed (A : Type 0) : Type 0 where
  refused_at : (number frame octet : ℕ) → Placed A
  done : A → Placed A

-- refusal n, unless the test holds; outside the frames the place is (0, 0)
abbrev pub unless_at : {A : Type 0} → ℕ → Bool → Placed A → Placed A
unless_at n true r = r
unless_at n false r = refused_at n 0 0

abbrev pub and_then_at : {A B : Type 0} → Placed A → (A → Placed B) → Placed B
and_then_at (refused_at n k at) next = refused_at n k at
and_then_at (done a) next = next a

-- an answer without a place, given its place
abbrev pub placed : {A B : Type 0} → Outcome A → (frame octet : ℕ) → (A → Placed B) → Placed B
placed (refused n) k at next = refused_at n k at
placed (ok a) k at next = next a
