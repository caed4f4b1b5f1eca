-- Octets as bits. Octets are numbers below 256, filled from the top bit down (document 01, first paragraph).
use Rattle.std.specs.Prelude.{Bool, true, false, List, [], ◌∷◌, ◌++◌, ℕ, zero, suc, ◌+◌, ◌*◌, ◌/◌, ◌%◌, ◌^◌, ◌<◌, length, get_or, take, drop, eqb}

-- whether the lowest binary digit is 1
unfoldable pub odd : ℕ → Bool
odd n = eqb (n % 2) 1

abbrev pub one_if : Bool → ℕ
one_if true = 1
one_if false = 0

-- the k low binary digits of n, top first
unfoldable pub digits : ℕ → ℕ → List Bool
digits zero n = []
digits (suc k) n = odd (n / 2 ^ k) ∷ digits k n

-- the number that the first k bits write, top first; bits that the list lacks are 0
unfoldable pub num : ℕ → List Bool → ℕ
num zero l = 0
num (suc k) [] = 0
num (suc k) (b ∷ l) = one_if b * 2 ^ k + num k l

-- the first k bits are 0: spare and filling bits
abbrev pub clear : ℕ → List Bool → Bool
clear k l = eqb (num k l) 0

-- the eight bits of each octet, joined
unfoldable pub bits : List ℕ → List Bool
bits [] = []
bits (x ∷ s) = digits 8 x ++ bits s

-- the first m octets of the bits l, filled up with 0
unfoldable pub packs : ℕ → List Bool → List ℕ
packs zero l = []
packs (suc m) l = num 8 l ∷ packs m (drop 8 l)

-- how many octets n bits take
abbrev pub octets_for : ℕ → ℕ
octets_for n = (n + 7) / 8

-- the octets that hold the bits l, the last one filled up with 0
unfoldable pub pack : List Bool → List ℕ
pack l = packs (octets_for (length l)) l

-- every element is an octet
abbrev pub Octets : List ℕ → Type 0
Octets s = (i : ℕ) → get_or s i 0 < 256

-- d with its n elements from index at on replaced by the first n of t
abbrev pub copied : List Bool → ℕ → List Bool → ℕ → List Bool
copied d at t n = take at d ++ (take n t ++ drop (at + n) d)
