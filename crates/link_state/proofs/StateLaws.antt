-- To be apart from each is to be apart from all; K is small. Assumes nothing.
use Rattle.std.proofs.Common.{◌≡◌, ◌&&◌, not, true, false, List, [], ◌∷◌, refl, ap, arith}
use Rattle.std.specs.Prelude.{ℕ, ◌≤◌, Bool, cond, eqb, leb}
use Rattle.std.specs.List.{list_all}
use Rattle.std.proofs.lemmas.Bool.Decides.{nat_tests}
use borrow.Author.Tests.{leb-true}
use Rattle.definitions.specs.Frames.{Row, row, type_table, row_in, core_column, core_bits}
use Rattle.links.specs.declared.Combination.{Combination}
use Rattle.links.specs.Sets.{unlike}

abbrev pub is_apart : Combination → Combination → Bool
is_apart c d = not (eqb c.rfci d.rfci) && not (eqb c.frame_type d.frame_type)

pub apart_is_all : (c : Combination) (ds : List Combination) → list_all (is_apart c) ds ≡ unlike c ds
apart_is_all c [] = refl
apart_is_all c (d ∷ ds) =
    elim (eqb c.rfci d.rfci) as (λ z. ((not z && not (eqb c.frame_type d.frame_type)) && list_all (is_apart c) ds)
    ≡ (not z && (not (eqb c.frame_type d.frame_type) && unlike c ds))) [
      | true ↦ refl
      | false ↦ ap (λ b. not (eqb c.frame_type d.frame_type) && b) (apart_is_all c ds)
    ]

small : List Row → Bool
small [] = true
small (row u k a x y z ∷ rows) = leb k 477 && small rows

column_small : (rows : List Row) (t : ℕ) → small rows ≡ true → core_column (row_in rows t) ≤ 477
unfolding small
column_small [] t h = omega arith
column_small (row u k a x y z ∷ rows) t h =
    elim (eqb t u) as (λ b. core_column (cond b (row u k a x y z) (row_in rows t)) ≤ 477) [
      | true ↦ leb-true k 477 (grind (arith, nat_tests))
      | false ↦ column_small rows t (grind (arith, nat_tests))
    ]

pub core_within : (t : ℕ) → core_bits t ≤ 477
unfolding core_bits small
core_within t = column_small type_table t refl
