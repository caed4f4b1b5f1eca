-- A field is read exactly where its word, its number and what ends the number stand, and so is a line. Assumes nothing.
use mathlib.Core.Path.{◌≡◌, refl, ap, ap₂, ◌∙◌}
use mathlib.Core.Bool.{true}
use mathlib.Core.List.{List, [], ◌∷◌, ◌++◌}
use Prim.Native.Nat.{ℕ}
use lib.Dec.{eqb}
use lib.ListN.{length, drop}
use lib.Seq.{drop-append_seam}
use borrow.Author.Tests.{eqb-true, eq-eqb}
use Rattle.std.proofs.lemmas.Bool.{and_from, false≢true}
use Rattle.bits.proofs.Tests.{and_left, and_right}
use Rattle.definitions.specs.Outcome.{ok, unless, and_then}
use Rattle.definitions.specs.Decimal.{decimal}
use Rattle.definitions.proofs.Outcome.{and_then-ok, unless-ok}
use Rattle.order_sheets_spec.specs.Sheets.{«d», equals, line_feed, field_text, number, begins, field, line}
use Rattle.order_sheets_spec.proofs.Numbers.{NoDigit, equals_ends, line_feed_ends, number-complete, number-sound}

-- ---- field

pub begins-sound : (word s : List ℕ) → begins word s ≡ true → s ≡ word ++ drop (length word) s
unfolding begins
begins-sound [] s h = refl
begins-sound (w ∷ word) [] h = absurd (false≢true h)
begins-sound (w ∷ word) (c ∷ s) h = ap₂ (λ c s. c ∷ s) (eqb-true c w (and_left _ _ h)) (begins-sound word s (and_right (eqb c w) _ h))

pub begins-complete : (word t : List ℕ) → begins word (word ++ t) ≡ true
unfolding begins
begins-complete [] t = refl
begins-complete (w ∷ word) t = and_from _ _ (eq-eqb w w refl) (begins-complete word t)

pub field-sound : (word : List ℕ) (end : ℕ) (s : List ℕ) (n : ℕ) (t : List ℕ) → field word end s ≡ ok (n, t) → s ≡ field_text word n end t
unfolding field
field-sound word end s n t e =
    let r = unless-ok 23 _ _ (n, t) e in
    begins-sound word s r.0 ∙ ap (λ x. word ++ x) (number-sound end (drop (length word) s) n t r.1)

pub field-complete : (word : List ℕ) (end : ℕ) → NoDigit end → (n : ℕ) (t : List ℕ) → field word end (field_text word n end t) ≡ ok (n, t)
unfolding field
field-complete word end nd n t =
    rw (begins-complete word (decimal n ++ (end ∷ t)))
    (ap (number end) (drop-append_seam word (decimal n ++ (end ∷ t))) ∙ number-complete end nd n t)

-- ---- line

pub line-sound : (j : ℕ) (s : List ℕ) (n : ℕ) (t : List ℕ) → line j s ≡ ok (n, t) → s ≡ field_text «d» j equals (field_text [] n line_feed t)
unfolding line
line-sound j s n t e =
    let f = and_then-ok _ _ (n, t) e in
    let u = unless-ok 23 _ _ (n, t) f.2 in
    field-sound «d» equals s f.0.0 f.0.1 f.1 ∙ ap₂ (λ j s. field_text «d» j equals s) (eqb-true f.0.0 j u.0) (number-sound line_feed f.0.1 n t u.1)

pub line-complete : (j n : ℕ) (t : List ℕ) → line j (field_text «d» j equals (field_text [] n line_feed t)) ≡ ok (n, t)
unfolding line
line-complete j n t =
    ap (λ o. and_then o (λ i. unless 23 (eqb i.0 j) (number line_feed i.1))) (field-complete «d» equals equals_ends j (field_text [] n line_feed t))
    ∙ ap (λ b. unless 23 b (number line_feed (field_text [] n line_feed t))) (eq-eqb j j refl)
    ∙ number-complete line_feed line_feed_ends n t
