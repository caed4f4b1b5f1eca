-- RFC sets (document 01, "The link", first paragraph; TS 26.202, 5 and 6.1.1). Document 01's row is a RAB sub-flow combination (RFC).
use Rattle.std.specs.Prelude.{Bool, true, not, ◌&&◌, ◌||◌, cond, List, [], ◌∷◌, ◌++◌, ℕ, ◌+◌, ◌-◌, eqb, leb, length, take, replicate}
use Rattle.definitions.specs.Outcome.{Outcome, refused, ok}
use Rattle.definitions.specs.Frames.{sid_type, no_data_type, core_bits}
use Rattle.links.specs.declared.Combination.{Combination}
use Rattle.links.specs.declared.RfcSet.{RfcSet}

abbrev pub combination : (rfci type size1 size2 size3 : ℕ) → Combination
combination i t a b c = record { rfci = i; frame_type = t; size1 = a; size2 = b; size3 = c }

-- "an RFCI (0 to 63)"
abbrev pub highest_rfci : ℕ
highest_rfci = 63

-- "a type (0 to 9 or 15)"
abbrev pub link_type : ℕ → Bool
link_type t = leb t sid_type || eqb t no_data_type

-- "an RFCI (0 to 63), a type (0 to 9 or 15) and three sub-flow sizes in bits whose sum is K"
unfoldable pub combination_good : Combination → Bool
combination_good c =
    leb c.rfci highest_rfci && (link_type c.frame_type && eqb (c.size1 + c.size2 + c.size3) (core_bits c.frame_type))

-- "RFCIs differ, and so do types": those of c and of each of the others
abbrev pub unlike : Combination → List Combination → Bool
unlike c [] = true
unlike c (d ∷ ds) = not (eqb c.rfci d.rfci) && (not (eqb c.frame_type d.frame_type) && unlike c ds)

abbrev pub all_good : List Combination → Bool
all_good [] = true
all_good (c ∷ cs) = combination_good c && (unlike c cs && all_good cs)

-- "1 to 11 rows"
abbrev pub most_combinations : ℕ
most_combinations = 11

unfoldable pub set_good : List Combination → Bool
set_good cs = leb 1 (length cs) && (leb (length cs) most_combinations && all_good cs)

-- the combinations of a set; "no set" has none
abbrev pub combinations : RfcSet → List Combination
combinations s = take s.count s.places

-- the set of these combinations; the places behind them are 0
abbrev pub rfc_set : List Combination → RfcSet
rfc_set cs = record { places = cs ++ replicate (most_combinations - length cs) (combination 0 0 0 0 0); count = length cs }

-- which field a combination is looked up by
pub data Key : Type 0 where
  by_rfci by_type : Key

abbrev pub has : Key → ℕ → Combination → Bool
has by_rfci n c = eqb c.rfci n
has by_type n c = eqb c.frame_type n

-- the combination with an RFCI or of a type, or 16. In a set that was assigned every combination is good; another is passed over
abbrev pub lookup : Key → ℕ → List Combination → Outcome Combination
lookup k n [] = refused 16
lookup k n (c ∷ cs) = cond (has k n c && combination_good c) (ok c) (lookup k n cs)
