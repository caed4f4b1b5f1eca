-- A table of k numbers in which none below k is missing is a permutation: counted over the numbers below k, a table has at most as many
-- as it is long, so no number is there twice, and none is larger. Assumes nothing.
use mathlib.Core.Path.{◌≡◌, refl, sym, ap, ap₂}
use mathlib.Core.Bool.{true, false, true≢false}
use mathlib.Core.List.{List, [], ◌∷◌}
use mathlib.Core.Logic.{⊎_elim}
use Prim.Native.Nat.{ℕ, zero, suc, ◌+◌, ◌≤◌, ◌<◌}
use native.Mathlib.Nat.{le_of_suc-le-suc, eq-or-lt_of_le}
use native.Mathlib.Omega.{arith}
use lib.Dec.{eqb, leb}
use lib.ListN.{length, get_or}
use borrow.Author.Tests.{leb-true, leb-false, le-leb, eq-eqb, ne_eqb}
use Rattle.std.proofs.lemmas.Bool.{and_from, and_cases, cases_lt}
use Rattle.bits.specs.Bits.{one_if}
use Rattle.bits.proofs.Tests.{and_left, and_right}
use Rattle.definitions.specs.Order.{times, none_missing}
use Rattle.definitions.specs.Claims.{Permutes}

-- ---- sums over the numbers below k

abbrev sum_below : ℕ → (ℕ → ℕ) → ℕ
sum_below zero f = 0
sum_below (suc n) f = f n + sum_below n f

sum-zero : (k : ℕ) → sum_below k (λ n. 0) ≡ 0
sum-zero zero = refl
sum-zero (suc k) = omega (arith, sum-zero k)

sum-add : (k : ℕ) (f g : ℕ → ℕ) → sum_below k (λ n. f n + g n) ≡ sum_below k f + sum_below k g
sum-add zero f g = refl
sum-add (suc k) f g = omega (arith, sum-add k f g)

-- x is none of the numbers below k, or one of them
sum-none : (k x : ℕ) → k ≤ x → sum_below k (λ n. one_if (eqb n x)) ≡ 0
sum-none zero x h = refl
sum-none (suc k) x h = ap₂ (λ b m. one_if b + m) (ne_eqb k x (λ e. omega arith)) (sum-none k x (omega arith))

sum-one : (k x : ℕ) → x < k → sum_below k (λ n. one_if (eqb n x)) ≡ 1
sum-one zero x h = absurd (omega arith)
sum-one (suc k) x h =
    ⊎_elim
    (λ e. ap₂ (λ b m. one_if b + m) (eq-eqb k x (sym e)) (sum-none k x (omega arith)))
    (λ l. ap₂ (λ b m. one_if b + m) (ne_eqb k x (λ e. omega arith)) (sum-one k x l))
    (eq-or-lt_of_le (le_of_suc-le-suc h))

module _ (f : ℕ → ℕ) where
  sum-least : (k : ℕ) → ((n : ℕ) → n < k → 1 ≤ f n) → k ≤ sum_below k f
  sum-least zero h = omega arith
  sum-least (suc k) h = omega (arith, h k (omega arith), sum-least k (λ n l. h n (omega arith)))

  sum-more : (k : ℕ) → ((n : ℕ) → n < k → 1 ≤ f n) → (m : ℕ) → m < k → k + f m ≤ sum_below k f + 1
  sum-more zero h m l = absurd (omega arith)
  sum-more (suc k) h m l =
      ⊎_elim
      (λ e. let q : f m ≡ f k = ap f e in omega (arith, sum-least k (λ n l. h n (omega arith))))
      (λ l. omega (arith, h k (omega arith), sum-more k (λ n l. h n (omega arith)) m l))
      (eq-or-lt_of_le (le_of_suc-le-suc l))

  sum-most : (k : ℕ) → ((n : ℕ) → n < k → f n ≤ 1) → sum_below k f ≤ k
  sum-most zero h = omega arith
  sum-most (suc k) h = omega (arith, h k (omega arith), sum-most k (λ n l. h n (omega arith)))

  sum-less : (k : ℕ) → ((n : ℕ) → n < k → f n ≤ 1) → (m : ℕ) → m < k → sum_below k f + 1 ≤ k + f m
  sum-less zero h m l = absurd (omega arith)
  sum-less (suc k) h m l =
      ⊎_elim
      (λ e. let q : f m ≡ f k = ap f e in omega (arith, sum-most k (λ n l. h n (omega arith))))
      (λ l. omega (arith, h k (omega arith), sum-less k (λ n l. h n (omega arith)) m l))
      (eq-or-lt_of_le (le_of_suc-le-suc l))

-- ---- times, over the numbers below k

abbrev within : (k : ℕ) → List ℕ → ℕ
within k table = sum_below k (λ n. times n table)

within-cons : (k x : ℕ) (table : List ℕ) → within k (x ∷ table) ≡ sum_below k (λ n. one_if (eqb n x)) + within k table
within-cons k x table = sum-add k (λ n. one_if (eqb n x)) (λ n. times n table)

within-all : (k : ℕ) (table : List ℕ) → ((j : ℕ) → j < length table → get_or table j 0 < k) → within k table ≡ length table
within-all k [] h = sum-zero k
within-all k (x ∷ table) h =
    omega (arith, within-cons k x table, sum-one k x (h 0 (omega arith)), within-all k table (λ j l. h (suc j) (omega arith)))

within-most : (k : ℕ) (table : List ℕ) → within k table ≤ length table
within-most k [] = omega (arith, sum-zero k)
within-most k (x ∷ table) =
    ⊎_elim
    (λ l. omega (arith, within-cons k x table, sum-one k x l, within-most k table))
    (λ l. omega (arith, within-cons k x table, sum-none k x l, within-most k table))
    (cases_lt x k)

within-less : (k : ℕ) (table : List ℕ) (j : ℕ) → j < length table → k ≤ get_or table j 0 → within k table < length table
within-less k [] j l h = absurd (omega arith)
within-less k (x ∷ table) zero l h = omega (arith, within-cons k x table, sum-none k x h, within-most k table)
within-less k (x ∷ table) (suc j) l h =
    ⊎_elim
    (λ b. omega (arith, within-cons k x table, sum-one k x b, within-less k table j (omega arith) h))
    (λ b. omega (arith, within-cons k x table, sum-none k x b, within-less k table j (omega arith) h))
    (cases_lt x k)

-- ---- none_missing

pub missing-none : (k : ℕ) (table : List ℕ) → none_missing k table ≡ true → (n : ℕ) → n < k → 1 ≤ times n table
missing-none zero table h n l = absurd (omega arith)
missing-none (suc k) table h n l =
    ⊎_elim
    (λ e. let q : times n table ≡ times k table = ap (λ n. times n table) e in omega (arith, leb-true 1 (times k table) (and_left _ (none_missing k table) h)))
    (λ m. missing-none k table (and_right (leb 1 (times k table)) _ h) n m)
    (eq-or-lt_of_le (le_of_suc-le-suc l))

none-missing : (k : ℕ) (table : List ℕ) → ((n : ℕ) → n < k → 1 ≤ times n table) → none_missing k table ≡ true
none-missing zero table h = refl
none-missing (suc k) table h =
    and_from (leb 1 (times k table)) (none_missing k table) (le-leb 1 (times k table) (h k (omega arith))) (none-missing k table (λ n l. h n (omega arith)))

-- one of the numbers is missing
pub some-missing : (k : ℕ) (table : List ℕ) → none_missing k table ≡ false → (n : ℕ) × (n < k) × (times n table ≡ 0)
some-missing zero table h = absurd (true≢false h)
some-missing (suc k) table h =
    ⊎_elim
    (λ e. (k, omega arith, omega (arith, leb-false 1 (times k table) e)))
    (λ e. let r = some-missing k table e in (r.0, omega (arith, r.1), r.2))
    (and_cases (leb 1 (times k table)) (none_missing k table) h)

-- ---- the rule

pub complete-permutes : (k : ℕ) (table : List ℕ) → length table ≡ k → none_missing k table ≡ true → Permutes k table
complete-permutes k table w h =
    let least = missing-none k table h in
    record {
      whole = w;
      below = λ j l.
          ⊎_elim (λ b. b)
          (λ b. absurd (omega (arith, within-less k table j (omega arith) b, sum-least (λ n. times n table) k least)))
          (cases_lt (get_or table j 0) k);
      once = λ n l. omega (arith, least n l, sum-more (λ n. times n table) k least n l, within-most k table);
    }

pub permutes-complete : (k : ℕ) (table : List ℕ) → Permutes k table → none_missing k table ≡ true
permutes-complete k table p = none-missing k table (λ n l. omega (arith, p.once n l))

-- the other way: k numbers below k with none twice lack none
pub distinct-complete : (k : ℕ) (table : List ℕ) → length table ≡ k → ((j : ℕ) → j < k → get_or table j 0 < k)
    → ((n : ℕ) → n < k → times n table ≤ 1) → none_missing k table ≡ true
distinct-complete k table w b o =
    none-missing k table
    (λ n l. omega (arith, sum-less (λ n. times n table) k o n l, within-all k table (λ j l. b j (omega arith))))
