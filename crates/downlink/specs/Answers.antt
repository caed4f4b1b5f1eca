-- What Down's answer says: document 01's number and values for each case; and what it promises of the state and of the three buffers.
use Rattle.std.specs.Prelude.{◌≡◌, List, ℕ, Result}
use Rattle.definitions.specs.Outcome.{Outcome, refused, ok}
use Rattle.definitions.specs.Reading.{overwritten}
use Rattle.frame.specs.declared.Refusal.{Refusal}
use Rattle.frame.specs.Answers.{outcome_of}
use Rattle.links.specs.declared.Link.{Link}
use Rattle.links.specs.Calls as paper
use Rattle.downlink.specs.declared.Answered.{Answered}
use Rattle.downlink_flows.specs.declared.Subflows.{Subflows}
use Rattle.downlink_flows.specs.Answers.{Numbers, numbers, subflows_of}

abbrev pub in_numbers : Outcome paper.Down → Outcome Numbers
in_numbers (refused n) = refused n
in_numbers (ok d) = ok (numbers d)

abbrev pub down_of : Result Subflows Refusal → Outcome Numbers
down_of = outcome_of subflows_of

-- a sub-flow's buffer after the call; a refused call leaves it
abbrev pub flow_after : (paper.Down → List ℕ) → Outcome paper.Down → List ℕ → List ℕ
flow_after flow (refused n) d = d
flow_after flow (ok y) d = overwritten (flow y) d

-- the answer, and the buffers, a₀, b₀ and c₀ before the call and a, b and c after it
pub record SplitInto (o : Outcome paper.Down) (a₀ a b₀ b c₀ c : List ℕ) (r : Result Subflows Refusal) : Type 0 where
  pub answer : down_of r ≡ in_numbers o
  pub buffer1 : a ≡ flow_after (λ y. y.flow1) o a₀
  pub buffer2 : b ≡ flow_after (λ y. y.flow2) o b₀
  pub buffer3 : c ≡ flow_after (λ y. y.flow3) o c₀

-- the state after an answer
abbrev pub next_link : Outcome Numbers → Link → Link
next_link (refused n) l = l
next_link (ok n) l = paper.recorded n.forward l

-- the same with the state after the call
pub record DownInto (o : Outcome paper.Down) (l : Link) (a₀ a b₀ b c₀ c : List ℕ) (r : Answered) : Type 0 where
  pub split : SplitInto o a₀ a b₀ b c₀ c r.answer
  pub link : r.link ≡ paper.down_after o l
