-- The first combination that `find` gives by the two tests of a lookup is the lookup's. Assumes nothing.
use Rattle.std.proofs.Common.{◌≡◌, ℕ, true, false, cond, ◌&&◌, List, [], ◌∷◌, Option, Some, None, refl, ap, ◌∙◌}
use Rattle.std.specs.Prelude.{find}
use Rattle.std.specs.Option.{option_map}
use Rattle.definitions.specs.Outcome.{ok}
use Rattle.links.specs.declared.Combination.{Combination}
use Rattle.links.specs.Sets.{combination_good, Key, has, lookup}
use Rattle.combinations.specs.Answers.{found_of}

abbrev pub first : Key → ℕ → List Combination → Option Combination
first k n = find (λ c. has k n c && combination_good c)

lookup-first : (k : Key) (n : ℕ) (cs : List Combination) → found_of 16 (first k n cs) ≡ lookup k n cs
lookup-first k n [] = refl
lookup-first k n (c ∷ cs) =
    elim (has k n c && combination_good c) as (λ t. found_of 16 (cond t (Some c) (first k n cs)) ≡ cond t (ok c) (lookup k n cs)) [
      | true ↦ refl
      | false ↦ lookup-first k n cs
    ]

pub lookup_from_first : (k : Key) (n : ℕ) (cs : List Combination) (r : Option Combination) → option_map (λ c. c) r ≡ first k n cs
    → found_of 16 r ≡ lookup k n cs
lookup_from_first k n cs (Some c) e = ap (found_of 16) e ∙ lookup-first k n cs
lookup_from_first k n cs None e = ap (found_of 16) e ∙ lookup-first k n cs
