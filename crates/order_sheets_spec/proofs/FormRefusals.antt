-- Whatever differs from the form of a sheet is refused by 23: no part of the form refuses by another number. Assumes nothing.
use mathlib.Core.Path.{◌≡◌, sym, ap}
use mathlib.Core.Bool.{Bool, true, false, ◌&&◌, cond}
use mathlib.Core.List.{List, [], ◌∷◌}
use Prim.Native.Nat.{ℕ, zero, suc, ◌+◌, ◌-◌, ◌*◌}
use lib.Dec.{eqb, leb}
use lib.ListN.{length, drop}
use Rattle.definitions.specs.Outcome.{Outcome, refused, ok, unless, and_then}
use Rattle.definitions.specs.Frames.{core_bits}
use Rattle.definitions.proofs.Outcome.{same_number, no_refusal}
use Rattle.order_sheets_spec.specs.Sheets.{«mode=», «bits=», «d», equals, line_feed, is_digit, digits, number, field, line, lines, head, sheet_form}

-- ---- by 23 or not at all

abbrev By23 : {A : Type 0} → Outcome A → Type 0
By23 o = (n : ℕ) → o ≡ refused n → n ≡ 23

ok-23 : {A : Type 0} (a : A) → By23 (ok a)
ok-23 a n e = no_refusal a n e

refused-23 : {A : Type 0} → By23 {A = A} (refused 23)
refused-23 n e = sym (same_number 23 n e)

unless-23 : {A : Type 0} (t : Bool) (o : Outcome A) → By23 o → By23 (unless 23 t o)
unless-23 true o h = h
unless-23 false o h = refused-23

and_then-23 : {A B : Type 0} (o : Outcome A) (next : A → Outcome B) → By23 o → ((a : A) → By23 (next a)) → By23 (and_then o next)
and_then-23 (refused m) next h g = λ n e. h n (ap refused (same_number m n e))
and_then-23 (ok a) next h g = g a

-- ---- the parts of the form

digits-23 : (end v : ℕ) (s : List ℕ) → By23 (digits end v s)
unfolding digits
digits-23 end v [] = refused-23
digits-23 end v (c ∷ s) = go (eqb c end) (digits-23 end (10 * v + (c - 48)) s)
  where
    go : (b : Bool) → By23 (digits end (10 * v + (c - 48)) s)
        → By23 (cond b (ok (v, s)) (unless 23 (is_digit c && leb 1 v) (digits end (10 * v + (c - 48)) s)))
    go true h = ok-23 (v, s)
    go false h = unless-23 _ _ h

number-23 : (end : ℕ) (s : List ℕ) → By23 (number end s)
unfolding number
number-23 end [] = refused-23
number-23 end (c ∷ s) = unless-23 _ _ (digits-23 end (c - 48) s)

field-23 : (word : List ℕ) (end : ℕ) (s : List ℕ) → By23 (field word end s)
unfolding field
field-23 word end s = unless-23 _ _ (number-23 end (drop (length word) s))

pub line-23 : (j : ℕ) (s : List ℕ) → By23 (line j s)
unfolding line
line-23 j s = and_then-23 _ _ (field-23 «d» equals s) (λ i. unless-23 _ _ (number-23 line_feed i.1))

lines-23 : (j k : ℕ) (s : List ℕ) → By23 (lines j k s)
unfolding lines
lines-23 j zero s = ok-23 ([], s)
lines-23 j (suc k) s =
    and_then-23 _ _ (line-23 j s)
    (λ x. and_then-23 _ _ (lines-23 (suc j) k x.1) (λ t. ok-23 (x.0 ∷ t.0, t.1)))

pub head-23 : (s : List ℕ) → By23 (head s)
unfolding head
head-23 s =
    and_then-23 _ _ (field-23 «mode=» line_feed s)
    (λ m. unless-23 _ _
    (and_then-23 _ _ (field-23 «bits=» line_feed m.1) (λ k. unless-23 _ _ (ok-23 (m.0, k.1)))))

pub form-23 : (s : List ℕ) → By23 (sheet_form s)
unfolding sheet_form
form-23 s =
    and_then-23 _ _ (head-23 s)
    (λ h. and_then-23 _ _ (lines-23 0 (core_bits h.0) h.1) (λ t. unless-23 _ _ (ok-23 (h.0, t.0))))
