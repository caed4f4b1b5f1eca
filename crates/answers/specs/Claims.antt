-- Demand 1 at the C interface: "A refused call writes no lent octet"; and "lent octets .. beyond the written ones stay".
use Rattle.std.specs.Prelude.{◌≡◌, List, ℕ, length, take, drop}
use Rattle.bits.specs.Bits.{pack}
use Rattle.definitions.specs.Outcome.{refused, ok}
use Rattle.definitions.specs.Frames.{Frame}
use Rattle.recordings.specs.Placed.{refused_at, done}
use Rattle.answers.specs.declared.Answer.{Answer}
use Rattle.answers.specs.declared.FrameAnswer.{FrameAnswer}
use Rattle.answers.specs.Flat.{FlatConversion, FlatOutput, FlatFrame}

-- a buffer, d₀ before the call and d after it, begins with the octets w, and the others are as they were
pub record Written (w d₀ d : List ℕ) : Type 0 where
  pub front : take (length w) d ≡ w
  pub beyond : drop (length w) d ≡ drop (length w) d₀

pub record LentOctets : Type 0 where
  pub conversion_refused : (n k at : ℕ) (d₀ d : List ℕ) (r : Answer) → FlatConversion (refused_at n k at) d₀ d r
      → (d ≡ d₀) × (r.refusal ≡ n) × (r.frame ≡ k) × (r.octet ≡ at)
  pub conversion_done : (frames : ℕ) (w d₀ d : List ℕ) (r : Answer) → FlatConversion (done (frames, w)) d₀ d r
      → Written w d₀ d × (r.refusal ≡ 0) × (r.frames ≡ frames) × (r.octets ≡ length w)
  pub output_refused : (n : ℕ) (d₀ d : List ℕ) (r : Answer) → FlatOutput (refused n) d₀ d r → (d ≡ d₀) × (r.refusal ≡ n)
  pub output_done : (w d₀ d : List ℕ) (r : Answer) → FlatOutput (ok w) d₀ d r → Written w d₀ d × (r.refusal ≡ 0) × (r.octets ≡ length w)
  pub frame_refused : (n : ℕ) (d₀ d : List ℕ) (r : FrameAnswer) → FlatFrame (refused n) d₀ d r → (d ≡ d₀) × (r.refusal ≡ n)
  pub frame_done : (x : Frame) (n : ℕ) (d₀ d : List ℕ) (r : FrameAnswer) → FlatFrame (ok (x, n)) d₀ d r
      → Written (pack x.core) d₀ d × (r.refusal ≡ 0) × (r.frame_type ≡ x.type) × (r.core_octets ≡ n)
