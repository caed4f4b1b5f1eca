-- A number in decimal, as octets in ASCII.
use Rattle.std.specs.Prelude.{cond, List, [], ◌∷◌, ◌++◌, ℕ, zero, suc, ◌+◌, ◌/◌, ◌%◌, ltb}

-- the digits of a number that has at most so many; none is 0 in front
abbrev pub digits_up_to : (most : ℕ) → ℕ → List ℕ
digits_up_to zero n = []
digits_up_to (suc most) n = cond (ltb n 10) ((48 + n) ∷ []) (digits_up_to most (n / 10) ++ ((48 + n % 10) ∷ []))

-- a number n has at most n + 1 digits
unfoldable pub decimal : ℕ → List ℕ
decimal n = digits_up_to (suc n) n
