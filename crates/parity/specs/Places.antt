-- Where two words of one length differ (document 01, The frame, "CRC": "Demand 3 counts places ..").
use Rattle.std.specs.Prelude.{ℕ, zero, suc, Bool, true, false, List, [], ◌∷◌, ◌++◌, take}
use Rattle.std.specs.Bool.{xor}
use Rattle.bits.specs.Bits.{digits}

-- true at each place where the two words differ
unfoldable pub differences : List Bool → List Bool → List Bool
differences [] w = []
differences (a ∷ v) [] = []
differences (a ∷ v) (b ∷ w) = xor a b ∷ differences v w

-- how many places are true
unfoldable pub count_true : List Bool → ℕ
count_true [] = 0
count_true (true ∷ e) = suc (count_true e)
count_true (false ∷ e) = count_true e

-- the first place that is true (the length, where none is)
unfoldable pub first_true : List Bool → ℕ
first_true [] = 0
first_true (true ∷ e) = 0
first_true (false ∷ e) = suc (first_true e)

-- the place k one further on, if there is one
abbrev pub suc_if_any : ℕ → ℕ → ℕ
suc_if_any zero k = 0
suc_if_any (suc c) k = suc k

-- the last place that is true (0, where none is)
unfoldable pub last_true : List Bool → ℕ
unfolding count_true
last_true [] = 0
last_true (b ∷ e) = suc_if_any (count_true e) (last_true e)

-- the places that the CRC guards in a frame, in the order in which demand 3 counts them: the first n bits of the core d, then
-- CRC(7) to CRC(0) of the octet c
abbrev pub guarded : ℕ → List Bool → ℕ → List Bool
guarded n d c = take n d ++ digits 8 c
