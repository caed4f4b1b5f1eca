-- What is asked where sub-flows are joined: their bits are there, and the core's buffer has room.
use Rattle.std.specs.Prelude.{List, ℕ, ◌+◌, ◌*◌, ◌≤◌, length}
use Rattle.links.specs.declared.Combination.{Combination}

pub record Joinable (c : Combination) (s₁ s₂ s₃ core : List ℕ) : Type 0 where
  pub there1 : c.size1 ≤ 8 * length s₁
  pub there2 : c.size2 ≤ 8 * length s₂
  pub there3 : c.size3 ≤ 8 * length s₃
  pub room : c.size1 + c.size2 + c.size3 ≤ 8 * length core
