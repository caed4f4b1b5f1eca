-- Tests that antt computes: a conjunction taken apart, and a test that passes for every number below a bound. Assumes nothing.
use mathlib.Core.Path.{◌≡◌, ap, ◌∙◌}
use mathlib.Core.Bool.{Bool, true, false, not, ◌&&◌, ◌||◌}
use mathlib.Core.Logic.{⊎_elim}
use Prim.Native.Nat.{ℕ, zero, suc, ◌<◌}
use Rattle.std.proofs.lemmas.Bool.{and_parts}
use native.Mathlib.Nat.{le_of_suc-le-suc, eq-or-lt_of_le}
use native.Mathlib.Omega.{arith}

-- the library's `and_parts`, a part at a time
pub and_left : (a b : Bool) → (a && b) ≡ true → a ≡ true
and_left a b h = (and_parts a b h).0

pub and_right : (a b : Bool) → (a && b) ≡ true → b ≡ true
and_right a b h = (and_parts a b h).1

pub or_else : (a b : Bool) → (a || b) ≡ true → a ≡ false → b ≡ true
or_else true b h e = cc
or_else false b h e = h

-- a test that holds under a condition, where the condition holds
pub given : (a b : Bool) → (not a || b) ≡ true → a ≡ true → b ≡ true
given true b h e = h
given false b h e = cc

abbrev pub every_below : ℕ → (ℕ → Bool) → Bool
every_below zero p = true
every_below (suc n) p = p n && every_below n p

pub every_below_lem : (n : ℕ) (p : ℕ → Bool) → every_below n p ≡ true → (k : ℕ) → k < n → p k ≡ true
every_below_lem zero p h k l = absurd (omega arith)
every_below_lem (suc n) p h k l =
    ⊎_elim (λ e. ap p e ∙ and_left _ _ h) (λ m. every_below_lem n p (and_right (p n) _ h) k m) (eq-or-lt_of_le (le_of_suc-le-suc l))
