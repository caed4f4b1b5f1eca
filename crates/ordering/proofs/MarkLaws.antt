-- Numbers that are marked one after the other, over plain lists: a table of k numbers has a mark for each exactly where no number below k is
-- missing from it. Assumes nothing.
use mathlib.Core.Path.{◌≡◌, refl, sym, ap, ◌∙◌}
use mathlib.Core.Bool.{Bool, true, false, not, cond, ◌&&◌}
use mathlib.Core.List.{List, [], ◌∷◌}
use mathlib.Core.Logic.{⊎_elim}
use Prim.Native.Nat.{ℕ, zero, suc, ◌+◌, ◌≤◌, ◌<◌}
use native.Mathlib.Omega.{arith}
use lib.Dec.{ltb}
use lib.ListN.{length, get_or, set, replicate, length-set, length-replicate, get_or-replicate}
use lib.Seq.{get_or-set_same, get_or-set_other}
use borrow.Author.Tests.{ltb-true, lt-ltb, eq-eqb, ne_eqb, not-true}
use Rattle.std.specs.Cmp.{both_ways}
use Rattle.std.proofs.lemmas.Bool.{and_from, not_from_false, false_from_ne_true, cases_eq, cond_both}
use Rattle.bits.specs.Bits.{one_if}
use Rattle.bits.proofs.BitLaws.{one_if-most}
use Rattle.bits.proofs.Tests.{and_left, and_right}
use Rattle.definitions.specs.Order.{times, none_missing}
use Rattle.definitions.proofs.Counting.{complete-permutes, distinct-complete}

-- n is below k, and has no mark yet
abbrev pub unmarked : (k : ℕ) (seen : List Bool) → ℕ → Bool
unmarked k seen n = ltb n k && not (get_or seen n false)

-- each number of the table can be marked, one after the other
abbrev pub fits : (k : ℕ) (seen : List Bool) → List ℕ → Bool
fits k seen [] = true
fits k seen (n ∷ table) = unmarked k seen n && fits k (set seen n true) table

-- how often n is in the table, or has a mark
abbrev count : (seen : List Bool) (table : List ℕ) → ℕ → ℕ
count seen table n = one_if (get_or seen n false) + times n table

-- ---- one number more

module _ (k : ℕ) (seen : List Bool) (size : k ≤ length seen) (x : ℕ) (below : x < k) (free : get_or seen x false ≡ false) where
  -- its mark counts as its place in the table did
  count-cons : (n : ℕ) (table : List ℕ) → count (set seen x true) table n ≡ count seen (x ∷ table) n
  count-cons n table =
      ⊎_elim
      (λ e.
      omega (
        arith,
        ap (λ n. one_if (get_or (set seen x true) n false)) e,
        ap one_if (get_or-set_same seen x true false (omega arith)),
        ap (λ n. one_if (get_or seen n false)) e,
        ap one_if free,
        ap one_if (eq-eqb n x e),
      ))
      (λ e. omega (arith, ap one_if (get_or-set_other seen x n true false e), ap one_if (ne_eqb n x e)))
      (cases_eq n x)

-- ---- fits, over the numbers below k

fits-below : (k : ℕ) (seen : List Bool) (table : List ℕ) → fits k seen table ≡ true → (j : ℕ) → j < length table → get_or table j 0 < k
fits-below k seen [] h j l = absurd (omega arith)
fits-below k seen (x ∷ table) h zero l = ltb-true x k (and_left _ _ (and_left _ _ h))
fits-below k seen (x ∷ table) h (suc j) l = fits-below k (set seen x true) table (and_right (unmarked k seen x) _ h) j (omega arith)

fits-few : (k : ℕ) (seen : List Bool) (table : List ℕ) → k ≤ length seen → fits k seen table ≡ true → (n : ℕ) → n < k → count seen table n ≤ 1
fits-few k seen [] size h n l = omega (arith, one_if-most (get_or seen n false))
fits-few k seen (x ∷ table) size h n l =
    let u = and_left (unmarked k seen x) _ h in
    omega (
      arith,
      count-cons k seen size x (ltb-true x k (and_left _ _ u)) (not-true _ (and_right (ltb x k) _ u)) n table,
      fits-few k (set seen x true) table (omega (arith, length-set seen x true)) (and_right (unmarked k seen x) _ h) n l,
    )

fits-from : (k : ℕ) (seen : List Bool) (table : List ℕ) → k ≤ length seen → ((j : ℕ) → j < length table → get_or table j 0 < k)
    → ((n : ℕ) → n < k → count seen table n ≤ 1) → fits k seen table ≡ true
fits-from k seen [] size b f = refl
fits-from k seen (x ∷ table) size b f =
    let l = b 0 (omega arith) in
    let free : get_or seen x false ≡ false =
    false_from_ne_true _ (λ e. omega (arith, f x l, ap one_if e, ap one_if (eq-eqb x x refl))) in
    and_from (unmarked k seen x) _ (and_from (ltb x k) _ (lt-ltb x k l) (not_from_false _ free))
    (fits-from k (set seen x true) table (omega (arith, length-set seen x true)) (λ j l. b (suc j) (omega arith))
    (λ n l'. omega (arith, count-cons k seen size x l free n table, f n l')))

-- ---- the rule

pub fits-none_missing : (k : ℕ) (table : List ℕ) (size : ℕ) → k ≤ size → length table ≡ k → fits k (replicate size false) table ≡ none_missing k table
fits-none_missing k table size m w =
    let seen = replicate size false in
    let s : length seen ≡ size = length-replicate size false in
    let unseen : (n : ℕ) → n < k → count seen table n ≡ times n table =
    λ n l. omega (arith, ap one_if (get_or-replicate size n false false (omega arith))) in
    both_ways _ _
    (λ h.
    distinct-complete k table w (λ j l. fits-below k seen table h j (omega arith))
    (λ n l. omega (arith, unseen n l, fits-few k seen table (omega arith) h n l)))
    (λ h.
    let p = complete-permutes k table w h in
    fits-from k seen table (omega arith) (λ j l. p.below j (omega arith)) (λ n l. omega (arith, unseen n l, p.once n l)))

-- ---- a number more, by what `mark` promises

module _ (k : ℕ) (seen seen' : List Bool) (n : ℕ) (r : Bool) (tested : r ≡ unmarked k seen n) (put : seen' ≡ cond r (set seen n true) seen) where
  pub length-marked : length seen' ≡ length seen
  length-marked = ap length put ∙ cond_both r (set seen n true) seen (λ s. length s ≡ length seen) (λ e. length-set seen n true) (λ e. refl)

  pub fits-marked : (table : List ℕ) → fits k seen (n ∷ table) ≡ (r && fits k seen' table)
  fits-marked table = ap (λ b. b && fits k (set seen n true) table) (sym tested) ∙ go r put
    where
      go : (r : Bool) → seen' ≡ cond r (set seen n true) seen → (r && fits k (set seen n true) table) ≡ (r && fits k seen' table)
      go true e = ap (λ s. fits k s table) (sym e)
      go false e = refl
