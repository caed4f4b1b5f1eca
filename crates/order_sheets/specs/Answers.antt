-- What the reader's answers say: what stands at the front of the text, what the lines write, and what the call writes to the output buffer.
use Rattle.std.specs.Prelude.{◌≡◌, List, ℕ, min, length, eqb, Option, Some, None, option_map, Result}
use denote.Ref.{Bor}
use Rattle.definitions.specs.Outcome.{Outcome, refused, ok, unless, and_then}
use Rattle.definitions.specs.Reading.{output_after}
use Rattle.definitions.specs.Order.{none_missing}
use Rattle.frame.specs.declared.Refusal.{Refusal}
use Rattle.frame.specs.Answers.{outcome_of}
use Rattle.order_sheets_spec.specs.Sheets.{lines}
use Rattle.order_sheets.specs.declared.Sheet.{Sheet}

-- a number too large for 16 bits is in form, and the code's number for it is the largest: no complete table has either
abbrev pub capped : ℕ → ℕ
capped n = min n 65535

-- a number and the text behind it, as the code has them
abbrev pub shown : Outcome (ℕ × List ℕ) → Option (ℕ × List ℕ)
shown (refused n) = None
shown (ok r) = Some (capped r.0, r.1)

-- the same of what the code answers, where the text is a slice
abbrev pub front : Option (ℕ × Bor (List ℕ)) → Option (ℕ × List ℕ)
front r = option_map (λ (p : ℕ × Bor (List ℕ)). (p.0, p.1.now)) r

-- the table that the k lines behind the first two write
abbrev pub table_in : (k : ℕ) → List ℕ → Outcome (List ℕ)
table_in k s = and_then (lines 0 k s) (λ t. unless 23 (eqb (length t.1) 0) (unless 24 (none_missing k t.0) (ok t.0)))

-- mode, and how many numbers were written
abbrev pub sheet_of : Result Sheet Refusal → Outcome (ℕ × ℕ)
sheet_of = outcome_of (λ (s : Sheet). (s.mode, s.numbers))

-- what the definition's answer says of the code's, and of the output buffer, d₀ before and d after the call
abbrev pub read_as : Outcome (ℕ × List ℕ) → Outcome (ℕ × ℕ)
read_as o = and_then o (λ y. ok (y.0, length y.1))

abbrev pub numbers_after : Outcome (ℕ × List ℕ) → List ℕ → List ℕ
numbers_after o d = output_after (and_then o (λ y. ok y.1)) d

pub record IntoNumbers (o : Outcome (ℕ × List ℕ)) (d₀ d : List ℕ) (r : Result Sheet Refusal) : Type 0 where
  pub answer : sheet_of r ≡ read_as o
  pub buffer : d ≡ numbers_after o d₀
