-- The lines of a table, one in front of the others: the next line's number, and what stands behind it. Assumes nothing.
use mathlib.Core.Path.{◌≡◌, refl, ap, ◌∙◌}
use mathlib.Core.List.{List, [], ◌∷◌}
use Prim.Native.Nat.{ℕ, suc}
use Rattle.std.specs.Prelude.{None}
use Rattle.definitions.specs.Outcome.{Outcome, refused, ok, and_then}
use Rattle.definitions.proofs.Outcome.{same_value, and_then-ok}
use Rattle.order_sheets_spec.specs.Sheets.{line, lines}
use Rattle.order_sheets_spec.proofs.FormRefusals.{line-23}
use Rattle.order_sheets.specs.Answers.{shown}
use Rattle.order_sheets.proofs.FieldLaws.{none-shown}

-- what a line adds to those behind it
abbrev pub with_number : ℕ → List ℕ × List ℕ → Outcome (List ℕ × List ℕ)
with_number n t = ok (n ∷ t.0, t.1)

pub lines-more : (j i : ℕ) (s : List ℕ) (n : ℕ) (t : List ℕ) → line j s ≡ ok (n, t) → lines j (suc i) s ≡ and_then (lines (suc j) i t) (with_number n)
unfolding lines
lines-more j i s n t e = ap (λ o. and_then o (λ x. and_then (lines (suc j) i x.1) (λ t. ok (x.0 ∷ t.0, t.1)))) e

-- the number and the text behind the first of some lines that are read
pub record Next (j i : ℕ) (s table u : List ℕ) : Type 0 where
  pub number : ℕ
  pub others : List ℕ
  pub behind : List ℕ
  pub here : line j s ≡ ok (number, behind)
  pub there : lines (suc j) i behind ≡ ok (others, u)
  pub first : number ∷ others ≡ table

pub lines-first : (j i : ℕ) (s table u : List ℕ) → lines j (suc i) s ≡ ok (table, u) → Next j i s table u
unfolding lines
lines-first j i s table u e =
    let f = and_then-ok (line j s) (λ x. and_then (lines (suc j) i x.1) (with_number x.0)) (table, u) e in
    let g = and_then-ok (lines (suc j) i f.0.1) (with_number f.0.0) (table, u) f.2 in
    let q = same_value (f.0.0 ∷ g.0.0, g.0.1) (table, u) g.2 in
    record {
      number = f.0.0;
      others = g.0.0;
      behind = f.0.1;
      here = f.1;
      there = g.1 ∙ ap (λ (y : List ℕ × List ℕ). ok (g.0.0, y.1)) q;
      first = ap (λ (y : List ℕ × List ℕ). y.0) q;
    }

pub lines-stop : (j i : ℕ) (s : List ℕ) → None ≡ shown (line j s) → lines j (suc i) s ≡ refused 23
unfolding lines
lines-stop j i s e =
    let f = none-shown _ e in
    ap (λ o. and_then o (λ x. and_then (lines (suc j) i x.1) (λ t. ok (x.0 ∷ t.0, t.1)))) f.1 ∙ ap refused (line-23 j s f.0 f.1)

pub lines-none : (j : ℕ) (s : List ℕ) → lines j 0 s ≡ ok ([], s)
unfolding lines
lines-none j s = refl
