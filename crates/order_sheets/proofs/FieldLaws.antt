-- A word, a number and a line at the front of a text: the code finds the word where it stands, and a line is that of d(j) where its first number is
-- j. Assumes nothing.
use mathlib.Core.Path.{◌≡◌, refl, sym, ap, ◌∙◌}
use mathlib.Core.Bool.{Bool, true, false}
use mathlib.Core.List.{List, ◌++◌}
use Prim.Native.Nat.{ℕ, ◌<◌}
use native.Mathlib.Omega.{arith}
use lib.Dec.{eqb}
use lib.ListN.{length, drop}
use lib.Seq.{drop-append_seam}
use borrow.Author.Tests.{eq-eqb, ne_eqb}
use Rattle.std.specs.Prelude.{Some, None}
use Rattle.definitions.specs.Outcome.{Outcome, refused, ok, unless, and_then}
use Rattle.order_sheets_spec.specs.Sheets.{«d», equals, line_feed, number, begins, field, line}
use Rattle.order_sheets_spec.proofs.Fields.{begins-sound, begins-complete}
use Rattle.order_sheets.specs.Answers.{capped, shown}

-- ---- shown

pub none-shown : (o : Outcome (ℕ × List ℕ)) → None ≡ shown o → (n : ℕ) × (o ≡ refused n)
none-shown (refused n) e = (n, refl)
none-shown (ok r) e = absurd (let z : ◌≡◌ {A = ℕ} 0 1 = cc in omega arith)

pub some-shown : (o : Outcome (ℕ × List ℕ)) (v : ℕ) (t : List ℕ) → Some (v, t) ≡ shown o → (n : ℕ) × (o ≡ ok (n, t)) × (v ≡ capped n)
some-shown (refused n) v t e = absurd (let z : ◌≡◌ {A = ℕ} 0 1 = cc in omega arith)
some-shown (ok r) v t e =
    let q : ◌≡◌ {A = ℕ × List ℕ} (v, t) (capped r.0, r.1) = cc in
    (r.0, ap (λ (p : ℕ × List ℕ). ok (r.0, p.1)) (sym q), ap (λ (p : ℕ × List ℕ). p.0) q)

-- ---- field

module _ (word s : List ℕ) (end : ℕ) where
  pub no-word : ((t : List ℕ) → s ≡ word ++ t → ⊥) → None ≡ shown (field word end s)
  unfolding field
  no-word h = go (begins word s) refl
    where
      go : (b : Bool) → begins word s ≡ b → None ≡ shown (unless 23 b (number end (drop (length word) s)))
      go true e = absurd (h _ (begins-sound word s e))
      go false e = refl

  pub word-read : (t : List ℕ) → s ≡ word ++ t → shown (number end t) ≡ shown (field word end s)
  unfolding field
  word-read t e =
      sym (ap (λ s. shown (unless 23 (begins word s) (number end (drop (length word) s)))) e
      ∙ rw (begins-complete word t) (ap (λ t. shown (number end t)) (drop-append_seam word t)))

-- ---- line

module _ (s : List ℕ) (j : ℕ) where
  abbrev behind : ℕ × List ℕ → Outcome (ℕ × List ℕ)
  behind i = unless 23 (eqb i.0 j) (number line_feed i.1)

  pub no-name : None ≡ shown (field «d» equals s) → None ≡ shown (line j s)
  unfolding line
  no-name e = let f = none-shown _ e in sym (ap (λ o. shown (and_then o behind)) f.1)

  module _ (v : ℕ) (t : List ℕ) (e : Some (v, t) ≡ shown (field «d» equals s)) (small : j < 65535) where
    pub other-name : (v ≡ j → ⊥) → None ≡ shown (line j s)
    unfolding line
    other-name h =
        let f = some-shown _ v t e in
        let n : f.0 ≡ j → ⊥ = λ q. h (omega (arith, f.2)) in
        sym (ap (λ o. shown (and_then o behind)) f.1 ∙ rw (ne_eqb f.0 j n))

    pub right-name : v ≡ j → shown (number line_feed t) ≡ shown (line j s)
    unfolding line
    right-name h =
        let f = some-shown _ v t e in
        let n : f.0 ≡ j = omega (arith, f.2) in
        sym (ap (λ o. shown (and_then o behind)) f.1 ∙ rw (eq-eqb f.0 j n))
