-- There and back, of any link: what Down splits, Up joins again, and what Up joins, Down splits again (TS 26.202, 6.3.2.6: "the reverse
-- function"), in every state that a list of calls leaves (`Remembers`, `RightLink`).
use Rattle.std.specs.Prelude.{◌≡◌, ◌≢◌, true, cond, ℕ, ◌≤◌, eqb, length}
use mathlib.Core.List.{List, Memᴰ}
use Rattle.bits.specs.Bits.{Octets}
use Rattle.definitions.specs.Outcome.{ok}
use Rattle.definitions.specs.Frames.{if1, Frame, octets, layout}
use Rattle.definitions.specs.Reading.{read_with}
use Rattle.recordings.specs.Conversion.{with_modes}
use Rattle.links.specs.declared.Combination.{Combination}
use Rattle.links.specs.declared.Link.{Link}
use Rattle.links.specs.Sets.{combinations}
use Rattle.links.specs.Calls.{roomy, Down}
use Rattle.links.specs.History.{up, down, Reply, frame, subflows, LinkProgram, RightLink}

-- what Down gives of a frame, and what Up answers to that
pub record JoinedAgain (l : Link) (x : Frame) (c : Combination) (d : Down) (answer : Reply) : Type 0 where
  pub good : d.fqc ≡ 0
  pub rfci : d.rfci ≡ c.rfci
  -- the frame with indication by rule and the stored request
  pub joined : answer ≡ frame (layout if1 (with_modes l.request x))

-- what Down gives of the frame that Up made of three sub-flows
pub record SplitAgain (q i : ℕ) (s₁ s₂ s₃ : List ℕ) (d : Down) : Type 0 where
  pub fqc : d.fqc ≡ cond (eqb q 0) 0 1
  pub rfci : d.rfci ≡ i
  pub flow1 : d.flow1 ≡ s₁
  pub flow2 : d.flow2 ≡ s₂
  pub flow3 : d.flow3 ≡ s₃

pub record ThereAndBack (step : LinkProgram) : Type 0 where
  -- of a good frame whose type is in the set, with room enough, neither call is refused
  pub down_up : (l : Link) (s : List ℕ) (x : Frame) (n : ℕ) (c : Combination) (m₁ m₂ m₃ room : ℕ) → RightLink l → Octets s
      → read_with true if1 s ≡ ok (x, n) → x.quality ≡ 1 → Memᴰ c (combinations l.set) → c.frame_type ≡ x.type
      → roomy c m₁ m₂ m₃ ≡ true → octets if1 x.type ≤ room
      → (d : Down) × ((step l (down s m₁ m₂ m₃)).0 ≡ subflows d)
      × JoinedAgain l x c d (step l (up 0 d.rfci d.flow1 d.flow2 d.flow3 room)).0
  -- of a frame that Up made, at either quality, Down is not refused
  pub up_down : (l : Link) (fqc rfci : ℕ) (s₁ s₂ s₃ : List ℕ) (room : ℕ) (w : List ℕ) (m₁ m₂ m₃ : ℕ) → RightLink l
      → Octets s₁ → Octets s₂ → Octets s₃ → fqc ≢ 1 → (step l (up fqc rfci s₁ s₂ s₃ room)).0 ≡ frame w
      → length s₁ ≤ m₁ → length s₂ ≤ m₂ → length s₃ ≤ m₃
      → (d : Down) × ((step l (down w m₁ m₂ m₃)).0 ≡ subflows d) × SplitAgain fqc rfci s₁ s₂ s₃ d
