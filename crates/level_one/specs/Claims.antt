-- Demand 1 at the C interface, of a call that makes one recording of two, at every level: a refused call writes no lent octet, another writes the
-- recording into the front of its buffer alone.
use Rattle.std.specs.Prelude.{◌≡◌, List, ℕ, length}
use Rattle.joins_spec.specs.Joined.{refused_in, made}
use Rattle.joins.specs.declared.JoinedAnswer.{JoinedAnswer}
use Rattle.joins.specs.Flat.{FlatJoined}
use Rattle.answers.specs.Claims.{Written}

pub record JoinedLentOctets : Type 0 where
  pub joined_refused : (i n k at : ℕ) (d₀ d : List ℕ) (r : JoinedAnswer) → FlatJoined (refused_in i n k at) d₀ d r
      → (d ≡ d₀) × (r.refusal ≡ n) × (r.frame ≡ k) × (r.octet ≡ at) × (r.recording ≡ i)
  pub joined_made : (frames : ℕ) (w d₀ d : List ℕ) (r : JoinedAnswer) → FlatJoined (made (frames, w)) d₀ d r
      → Written w d₀ d × (r.refusal ≡ 0) × (r.frames ≡ frames) × (r.octets ≡ length w)
