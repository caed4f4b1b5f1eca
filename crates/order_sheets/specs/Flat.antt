-- The answer of the reading call as numbers. Frame and octet are 0, and at a refusal every field but its number is.
use Rattle.std.specs.Prelude.{◌≡◌, List, ℕ}
use Rattle.definitions.specs.Outcome.{Outcome, refused, ok}
use Rattle.order_sheets.specs.declared.SheetAnswer.{SheetAnswer}
use Rattle.order_sheets.specs.Answers.{read_as, numbers_after}

abbrev pub sheet_numbers : Outcome (ℕ × ℕ) → SheetAnswer
sheet_numbers (refused n) = record { refusal = n; frame = 0; octet = 0; mode = 0; numbers = 0 }
sheet_numbers (ok y) = record { refusal = 0; frame = 0; octet = 0; mode = y.0; numbers = y.1 }

-- the answer, and the output buffer, d₀ before and d after the call
pub record FlatSheet (o : Outcome (ℕ × List ℕ)) (d₀ d : List ℕ) (r : SheetAnswer) : Type 0 where
  pub answer : r ≡ sheet_numbers (read_as o)
  pub buffer : d ≡ numbers_after o d₀
