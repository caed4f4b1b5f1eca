-- Demand 1 at the C interface, of Down: a refused call writes no lent octet and leaves the link's state; another writes each sub-flow into the
-- front of its buffer alone.
use Rattle.std.specs.Prelude.{◌≡◌, List, ℕ, length}
use Rattle.definitions.specs.Outcome.{refused, ok}
use Rattle.answers.specs.Claims.{Written}
use Rattle.links.specs.declared.Link.{Link}
use Rattle.links.specs.Calls.{Down}
use Rattle.link_answers.specs.declared.DownNumbers.{DownNumbers}
use Rattle.link_answers.specs.Flat.{FlatDown}

pub record DownLentOctets : Type 0 where
  pub down_refused : (n : ℕ) (l : Link) (a₀ a b₀ b c₀ c : List ℕ) (r : DownNumbers) → FlatDown (refused n) l a₀ a b₀ b c₀ c r
      → (a ≡ a₀) × (b ≡ b₀) × (c ≡ c₀) × (r.refusal ≡ n) × (r.link ≡ l)
  pub down_done : (y : Down) (l : Link) (a₀ a b₀ b c₀ c : List ℕ) (r : DownNumbers) → FlatDown (ok y) l a₀ a b₀ b c₀ c r
      → Written y.flow1 a₀ a × Written y.flow2 b₀ b × Written y.flow3 c₀ c × (r.refusal ≡ 0)
      × (r.n1 ≡ length y.flow1) × (r.n2 ≡ length y.flow2) × (r.n3 ≡ length y.flow3)
