-- What a lookup's answer says: the combination, or document 01's number.
use Rattle.std.specs.Prelude.{ℕ, Option, Some, None}
use Rattle.definitions.specs.Outcome.{Outcome, refused, ok}
use Rattle.links.specs.declared.Combination.{Combination}

-- the combination, or refusal n
abbrev pub found_of : (n : ℕ) → Option Combination → Outcome Combination
found_of n (Some c) = ok c
found_of n None = refused n
