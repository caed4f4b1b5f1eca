-- What Up judges before it writes, and what it is then to write.
use Rattle.std.specs.Prelude.{◌≡◌, true, ◌&&◌, cond, List, [], ℕ, ◌≤◌, eqb, leb, Option, Some, None, Result, Ok}
use Rattle.definitions.specs.Outcome.{Outcome, unless, and_then}
use Rattle.definitions.specs.Frames.{sid_type, no_data_type, Frame, frame_by}
use Rattle.frame.specs.declared.Refusal.{Refusal}
use Rattle.frame.specs.Answers.{outcome_of}
use Rattle.links.specs.declared.Combination.{Combination}
use Rattle.links.specs.declared.Link.{Link}
use Rattle.links.specs.Sets.{highest_rfci, combination_good, combinations, by_rfci, lookup}
use Rattle.links.specs.Calls.{has_set, subflows_good, up_frame, frame_written, up_call}

-- 11, 14, 13 and 16, the front of `up_call`
unfoldable pub picked : Link → (fqc rfci : ℕ) → Outcome Combination
picked l fqc rfci =
    unless 11 (leb fqc 3 && leb rfci highest_rfci)
    (unless 14 (has_set l)
    (unless 13 (leb fqc 2)
    (lookup by_rfci rfci (combinations l.set))))

abbrev pub picked_of : Result Combination Refusal → Outcome Combination
picked_of = outcome_of (λ c. c)

-- the frame that is then to be written: a combination's, which has a core, or one of type 15
abbrev pub frame_joined : (request fqc : ℕ) → (s₁ s₂ s₃ : List ℕ) → Option Combination → Frame
frame_joined r fqc s₁ s₂ s₃ (Some c) = up_frame r fqc c s₁ s₂ s₃
frame_joined r fqc s₁ s₂ s₃ None = frame_by no_data_type (cond (eqb fqc 0) 1 0) 0 0 []

-- what is written into room octets
abbrev pub writes : (request fqc : ℕ) → (s₁ s₂ s₃ : List ℕ) → Result (Option Combination) Refusal → (room : ℕ) → Outcome (List ℕ)
writes r fqc s₁ s₂ s₃ j room = and_then (outcome_of (frame_joined r fqc s₁ s₂ s₃) j) (λ x. frame_written x room)

-- what is known of it
pub record HasCore (c : Combination) (s₁ s₂ s₃ : List ℕ) : Type 0 where
  pub good : combination_good c ≡ true
  pub type : c.frame_type ≤ sid_type
  pub flows : subflows_good c s₁ s₂ s₃ ≡ true

pub record Judges (l : Link) (fqc rfci : ℕ) (s₁ s₂ s₃ : List ℕ) (r : Result (Option Combination) Refusal) : Type 0 where
  pub call : (room : ℕ) → writes l.request fqc s₁ s₂ s₃ r room ≡ up_call l fqc rfci s₁ s₂ s₃ room
  pub core : (c : Combination) → r ≡ Ok (Some c) → HasCore c s₁ s₂ s₃
