-- The tests of the lines, one line more: its number is marked as it stands, and one that was capped is never marked, as the larger one of the text would
-- not be. What is left to test then makes the answer. Assumes nothing.
use mathlib.Core.Path.{◌≡◌, refl, sym, ap, ap₂, ◌∙◌}
use mathlib.Core.Bool.{Bool, true, false, ◌&&◌, cond, and_assoc}
use mathlib.Core.List.{List, ◌∷◌}
use Prim.Native.Nat.{ℕ, suc, ◌+◌, ◌-◌, ◌≤◌, ◌<◌}
use native.Mathlib.Omega.{arith}
use lib.Dec.{eqb, ltb}
use lib.ListN.{length, set, replicate, length-replicate}
use borrow.Author.Tests.{ltb-true, ltb-false, le-ltb}
use Rattle.std.specs.Prelude.{Some, None, ⊤}
use Rattle.definitions.specs.Outcome.{Outcome, refused, ok, unless, and_then}
use Rattle.definitions.specs.Order.{none_missing}
use Rattle.ordering.proofs.MarkLaws.{unmarked, fits, fits-none_missing, length-marked, fits-marked}
use Rattle.order_sheets_spec.specs.Sheets.{line, lines}
use Rattle.order_sheets_spec.proofs.Form.{lines-sound}
use Rattle.order_sheets.specs.Answers.{capped, shown, table_in}
use Rattle.order_sheets.proofs.FieldLaws.{some-shown}
use Rattle.order_sheets.proofs.LineLaws.{with_number, lines-more, lines-stop, lines-none}

-- a number that was capped and the larger one of the text are marked alike
fits-capped : (k n v : ℕ) (seen : List Bool) (table : List ℕ) → k ≤ 65535 → v ≡ capped n → fits k seen (n ∷ table) ≡ fits k seen (v ∷ table)
fits-capped k n v seen table h e = go (ltb n 65535) refl
  where
    go : (b : Bool) → ltb n 65535 ≡ b → fits k seen (n ∷ table) ≡ fits k seen (v ∷ table)
    go true t = ap (λ n. fits k seen (n ∷ table)) (let l = ltb-true n 65535 t in let q : n ≡ v = omega arith in q)
    go false t = let l = ltb-false n 65535 t in rw (le-ltb n k (omega arith), le-ltb v k (omega arith))

abbrev pub passed : Outcome ⊤
passed = ok tt

-- what the tests of k lines answer
abbrev pub tests_of : (k : ℕ) → List ℕ → Outcome ⊤
tests_of k s = and_then (table_in k s) (λ t. passed)

-- what is tested of the lines' table, with the numbers before it marked, and what stands behind it
abbrev judged : (good : Bool) (k : ℕ) (seen : List Bool) → List ℕ × List ℕ → Outcome ⊤
judged good k seen t = unless 23 (eqb (length t.1) 0) (unless 24 (good && fits k seen t.0) passed)

-- what is left to test of k lines, of which j were, is what all of them are tested for
pub record Tested (s : List ℕ) (k j : ℕ) (rest : List ℕ) (good : Bool) (seen : List Bool) : Type 0 where
  pub within : j ≤ k
  pub size : k ≤ length seen
  pub left : and_then (lines j (k - j) rest) (judged good k seen) ≡ tests_of k s

after-test : (k : ℕ) (t : List ℕ × List ℕ) (b : Bool) → b ≡ none_missing k t.0
    → unless 23 (eqb (length t.1) 0) (unless 24 b passed) ≡ and_then (unless 23 (eqb (length t.1) 0) (unless 24 (none_missing k t.0) (ok t.0))) (λ t. passed)
after-test k t b e = ap (λ b. unless 23 (eqb (length t.1) 0) (unless 24 b passed)) e ∙ go (eqb (length t.1) 0) (none_missing k t.0)
  where
    go : (a b : Bool) → unless 23 a (unless 24 b passed) ≡ and_then (unless 23 a (unless 24 b (ok t.0))) (λ t. passed)
    go true true = refl
    go true false = refl
    go false b = refl

pub none-tested : (s : List ℕ) (k size : ℕ) → k ≤ size → Tested s k 0 s true (replicate size false)
none-tested s k size h = record {
  within = omega arith;
  size = omega (arith, length-replicate {A = Bool} size false);
  left = ap (λ i. and_then (lines 0 i s) (judged true k (replicate size false))) (let q : k - 0 ≡ k = omega arith in q) ∙ go (lines 0 k s) refl;
}
  where
    go : (o : Outcome (List ℕ × List ℕ)) → lines 0 k s ≡ o
        → and_then o (judged true k (replicate size false)) ≡ and_then (and_then o (λ t. unless 23 (eqb (length t.1) 0) (unless 24 (none_missing k t.0) (ok t.0)))) (λ t. passed)
    go (refused n) e = refl
    go (ok t) e = after-test k t _ (fits-none_missing k t.0 size h (lines-sound 0 k s t.0 t.1 e).0)

module _ {s : List ℕ} {k j : ℕ} {rest : List ℕ} {good : Bool} {seen : List Bool} (x : Tested s k j rest good seen) where
  module _ (l : j < k) where
    pub line-refused : None ≡ shown (line j rest) → refused 23 ≡ tests_of k s
    line-refused e =
        sym (ap (λ o. and_then o (judged good k seen)) (lines-stop j (k - j - 1) rest e))
        ∙ ap (λ i. and_then (lines j i rest) (judged good k seen)) (let q : suc (k - j - 1) ≡ k - j = omega arith in q)
        ∙ x.left

    pub line-tested : (v : ℕ) (t : List ℕ) (r : Bool) (seen' : List Bool) → k ≤ 65535 → Some (v, t) ≡ shown (line j rest) → r ≡ unmarked k seen v
        → seen' ≡ cond r (set seen v true) seen → Tested s k (j + 1) t (good && r) seen'
    line-tested v t r seen' h e m p =
        let f = some-shown _ v t e in
        let n = f.0 in
        record {
          within = omega arith;
          size = omega (arith, x.size, length-marked k seen seen' v r m p);
          left =
              ap₂ (λ j i. and_then (lines j i t) (judged (good && r) k seen')) (let q : j + 1 ≡ suc j = omega arith in q) (let q : k - (j + 1) ≡ k - j - 1 = omega arith in q)
              ∙ go (lines (suc j) (k - j - 1) t)
              ∙ sym (ap (λ o. and_then o (judged good k seen)) (lines-more j (k - j - 1) rest n t f.1))
              ∙ ap (λ i. and_then (lines j i rest) (judged good k seen)) (let q : suc (k - j - 1) ≡ k - j = omega arith in q)
              ∙ x.left;
        }
      where
        both-tests : (table : List ℕ) (n : ℕ) → v ≡ capped n → ((good && r) && fits k seen' table) ≡ (good && fits k seen (n ∷ table))
        both-tests table n q =
            and_assoc good r (fits k seen' table) ∙ ap (λ b. good && b) (sym (fits-capped k n v seen table h q ∙ fits-marked k seen seen' v r m p table))

        go : (o : Outcome (List ℕ × List ℕ)) → and_then o (judged (good && r) k seen') ≡ and_then (and_then o (with_number (some-shown _ v t e).0)) (judged good k seen)
        go (refused n) = refl
        go (ok u) = ap (λ b. unless 23 (eqb (length u.1) 0) (unless 24 b passed)) (both-tests u.0 _ (some-shown _ v t e).2)

  module _ (l : k ≤ j) where
    whole : unless 23 (eqb (length rest) 0) (unless 24 (good && true) passed) ≡ tests_of k s
    whole =
        sym (ap (λ o. and_then o (judged good k seen)) (lines-none j rest))
        ∙ ap (λ i. and_then (lines j i rest) (judged good k seen)) (let q : 0 ≡ k - j = omega (arith, x.within) in q)
        ∙ x.left

    pub text-behind : eqb (length rest) 0 ≡ false → refused 23 ≡ tests_of k s
    text-behind h = sym (rw h) ∙ whole

    pub number-missing : eqb (length rest) 0 ≡ true → good ≡ false → refused 24 ≡ tests_of k s
    number-missing h g = sym (rw (h, g)) ∙ whole

    pub all-tested : eqb (length rest) 0 ≡ true → good ≡ true → passed ≡ tests_of k s
    all-tested h g = sym (rw (h, g)) ∙ whole
