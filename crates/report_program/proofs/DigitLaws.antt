-- A number's digits in decimal: its last one stands behind those of its tenth part. A number of 64 bits has at most 20, and `{}` prints them. Assumes
-- nothing.
use mathlib.Core.Path.{◌≡◌, sym, ap, ◌∙◌}
use mathlib.Core.List.{[], ◌∷◌, ◌++◌}
use Prim.Native.Nat.{ℕ, zero, suc, ◌+◌, ◌/◌, ◌%◌, ◌^◌, ◌<◌, ◌≤◌}
use native.Mathlib.Nat.{pow-suc, div-lt_iff_lt-mul}
use native.Mathlib.Omega.{arith}
use lib.ListN.{length, length-append}
use borrow.Author.Tests.{lt-ltb, le-ltb}
use Rattle.std.specs.Fmt as printed
use Rattle.std.proofs.lemmas.Fmt as library
use Rattle.std.proofs.lemmas.Bool.{cases_lt}
use Rattle.std.proofs.Common.{inl, inr}
use Rattle.definitions.specs.Decimal.{digits_up_to, decimal}

-- where there are enough of them, how many it may be does not matter
digits-enough : (m k n : ℕ) → n < m → n < k → digits_up_to m n ≡ digits_up_to k n
digits-enough zero k n h l = absurd (omega arith)
digits-enough (suc m) zero n h l = absurd (omega arith)
digits-enough (suc m) (suc k) n h l = elim (cases_lt n 10) [
  | inl small ↦ rw (lt-ltb n 10 small)
  | inr large ↦ rw (le-ltb n 10 large) (ap (λ ds. ds ++ ((48 + n % 10) ∷ [])) (digits-enough m k (n / 10) (omega arith) (omega arith)))
]

pub decimal_digit : (n : ℕ) → n < 10 → decimal n ≡ (48 + n) ∷ []
unfolding decimal
decimal_digit n small = rw (lt-ltb n 10 small)

pub decimal_step : (n : ℕ) → 10 ≤ n → decimal n ≡ decimal (n / 10) ++ ((48 + n % 10) ∷ [])
unfolding decimal
decimal_step n large = rw (le-ltb n 10 large) (ap (λ ds. ds ++ ((48 + n % 10) ∷ [])) (digits-enough n (suc (n / 10)) (n / 10) (omega arith) (omega arith)))

pub decimal_longer : (n : ℕ) → 10 ≤ n → length (decimal n) ≡ length (decimal (n / 10)) + 1
decimal_longer n large = ap length (decimal_step n large) ∙ length-append (decimal (n / 10)) ((48 + n % 10) ∷ [])

few-digits : (few most n : ℕ) → n < 10 ^ suc few → length (digits_up_to most n) ≤ suc few
few-digits few zero n h = omega arith
few-digits zero (suc most) n h = rw (lt-ltb n 10 (let small : n < 10 = omega arith in small)) (omega arith)
few-digits (suc few) (suc most) n h = elim (cases_lt n 10) [
  | inl small ↦ rw (lt-ltb n 10 small) (omega arith)
  | inr large ↦
      let tenth = few-digits few most (n / 10) ((div-lt_iff_lt-mul {k = 10} (omega arith)).1 (omega (arith, pow-suc 10 (suc few)))) in
      rw (le-ltb n 10 large) (omega (arith, tenth, length-append (digits_up_to most (n / 10)) ((48 + n % 10) ∷ [])))
]

pub decimal_few : (n : ℕ) → n < 2 ^ 64 → length (decimal n) ≤ 20
unfolding decimal
decimal_few n h = few-digits 19 (suc n) n (omega arith)

-- ---- what `{}` prints of a number

digits-up_to : (most n : ℕ) → n < most → n < 2 ^ 64 → printed.decimal n ≡ digits_up_to most n
digits-up_to zero n h f = absurd (omega arith)
digits-up_to (suc most) n h f = elim (cases_lt n 10) [
  | inl small ↦ library.decimal_digit n small ∙ sym (rw (lt-ltb n 10 small))
  | inr large ↦
      let tenth = digits-up_to most (n / 10) (omega arith) (omega arith) in
      library.decimal_step n large f ∙ ap (λ ds. ds ++ ((48 + n % 10) ∷ [])) tenth ∙ sym (rw (le-ltb n 10 large))
]

pub decimal_printed : (n : ℕ) → n < 2 ^ 64 → printed.decimal n ≡ decimal n
unfolding decimal
decimal_printed n f = digits-up_to (suc n) n (omega arith) f
