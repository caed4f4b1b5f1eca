-- The writing of the table, one number more: the lines are those that were tested, so each is there, and no number was capped. Assumes nothing.
use mathlib.Core.Path.{◌≡◌, sym, ap, ap₂, ◌∙◌, subst}
use mathlib.Core.List.{List, [], ◌∷◌, ◌++◌}
use Prim.Native.Nat.{ℕ, suc, ◌+◌, ◌-◌, ◌≤◌, ◌<◌}
use native.Mathlib.Omega.{arith}
use lib.Dec.{eqb}
use lib.ListN.{length, get_or, set, take, drop, length-set}
use lib.Seq.{drop-cons, take_all, take-suc, take-suc-set}
use borrow.Author.Tests.{eqb-true}
use Rattle.std.specs.Prelude.{Some, None}
use Rattle.std.proofs.lemmas.List.{nil_from_length}
use Rattle.definitions.specs.Outcome.{ok}
use Rattle.definitions.specs.Order.{none_missing}
use Rattle.definitions.specs.Claims.{Permutes}
use Rattle.definitions.proofs.Outcome.{same_value, no_refusal, and_then-ok, unless-ok}
use Rattle.definitions.proofs.Counting.{complete-permutes}
use Rattle.order_sheets_spec.specs.Sheets.{line, lines}
use Rattle.order_sheets_spec.proofs.Form.{lines-sound}
use Rattle.order_sheets.specs.Answers.{shown, table_in}
use Rattle.order_sheets.proofs.FieldLaws.{none-shown, some-shown}
use Rattle.order_sheets.proofs.LineLaws.{Next, lines-first}

-- the first j numbers are written, and the other lines are left to read
pub record Written (s numbers₀ : List ℕ) (j : ℕ) (rest numbers : List ℕ) : Type 0 where
  pub size : length numbers ≡ length numbers₀
  pub left : (table : List ℕ) → table_in (length numbers₀) s ≡ ok table
      → (take j numbers ≡ take j table) × (lines j (length numbers₀ - j) rest ≡ ok (drop j table, []))

-- the tests found that the lines write the table, and that it is a permutation
pub found : (k : ℕ) (s table : List ℕ) → table_in k s ≡ ok table → (lines 0 k s ≡ ok (table, [])) × Permutes k table
found k s table e =
    let a = and_then-ok (lines 0 k s) _ table e in
    let b = unless-ok 23 (eqb (length a.0.1) 0) _ table a.2 in
    let c = unless-ok 24 (none_missing k a.0.0) _ table b.1 in
    let q = same_value a.0.0 table c.1 in (
      a.1 ∙ ap₂ (λ t u. ok (t, u)) q (nil_from_length a.0.1 (eqb-true _ _ b.0)),
      subst (Permutes k) q (complete-permutes k a.0.0 (lines-sound 0 k s a.0.0 a.0.1 a.1).0 c.0),
    )

module _ {s numbers₀ : List ℕ} {j : ℕ} {rest numbers : List ℕ} (x : Written s numbers₀ j rest numbers) where
  pub all-written : length numbers ≤ j → (table : List ℕ) → table_in (length numbers₀) s ≡ ok table → numbers ≡ table
  all-written l table e =
      let f = found _ s table e in
      sym (take_all j numbers l) ∙ (x.left table e).0 ∙ take_all j table (omega (arith, f.1.whole, x.size))

  module _ (l : j < length numbers) (table : List ℕ) (e : table_in (length numbers₀) s ≡ ok table) where
    place : j < length table
    place = omega (arith, (found _ s table e).1.whole, x.size)

    next : Next j (length numbers₀ - suc j) rest (drop j table) []
    next =
        lines-first j (length numbers₀ - suc j) rest (drop j table) []
        (ap (λ i. lines j i rest) (let q : suc (length numbers₀ - suc j) ≡ length numbers₀ - j = omega (arith, x.size) in q) ∙ (x.left table e).1)

    next-number : next.number ≡ get_or table j 0
    next-number = ap (λ t. get_or t 0 0) (next.first ∙ drop-cons table j 0 place)

    next-behind : next.others ≡ drop (suc j) table
    next-behind = ap (drop 1) (next.first ∙ drop-cons table j 0 place)

  module _ (l : j < length numbers) where
    -- so there is one
    pub not-refused : None ≡ shown (line j rest) → (table : List ℕ) → table_in (length numbers₀) s ≡ ok table → ⊥
    not-refused h table e =
        let n = none-shown _ h in
        no_refusal _ n.0 (sym (next l table e).here ∙ n.1)

    pub more-written : (v : ℕ) (t numbers' : List ℕ) → Some (v, t) ≡ shown (line j rest) → length numbers ≤ 65535 → numbers' ≡ set numbers j v
        → Written s numbers₀ (j + 1) t numbers'
    more-written v t numbers' h few p = record {
      size = ap length p ∙ length-set numbers j v ∙ x.size;
      left = λ table e.
          let n = next l table e in
          let f = some-shown _ v t h in
          let q = same_value (f.0, t) (n.number, n.behind) (sym f.1 ∙ n.here) in
          let m : f.0 ≡ get_or table j 0 = ap (λ (y : ℕ × List ℕ). y.0) q ∙ next-number l table e in
          let w : v ≡ get_or table j 0 =
          omega (arith, f.2, m, (found _ s table e).1.below j (omega (arith, x.size)), x.size) in
          let i : j + 1 ≡ suc j = omega arith in (
            ap (take (j + 1)) p
                ∙ ap (λ i. take i (set numbers j v)) i ∙ take-suc-set numbers j v l
                ∙ ap₂ (λ a b. a ++ (b ∷ [])) (x.left table e).0 w
                ∙ sym (take-suc table j 0 (place l table e)) ∙ ap (λ i. take i table) (sym i),
            ap (λ i. lines i (length numbers₀ - i) t) i
                ∙ ap (lines (suc j) (length numbers₀ - suc j)) (ap (λ (y : ℕ × List ℕ). y.1) q)
                ∙ n.there
                ∙ ap (λ t. ok (t, [])) (next-behind l table e ∙ ap (λ i. drop i table) (sym i)),
          );
    }
