-- A number is read exactly where its decimal digits stand, with what ends them: each digit that is read is one more of the number's, and only the
-- number 0 begins with 0. Assumes nothing.
use mathlib.Core.Path.{◌≡◌, refl, sym, ap, ap₂, ◌∙◌}
use mathlib.Core.Bool.{Bool, true, false, ◌&&◌, cond}
use mathlib.Core.List.{List, [], ◌∷◌, ◌++◌}
use mathlib.Core.Logic.{⊎_elim}
use Prim.Native.Nat.{ℕ, zero, suc, ◌+◌, ◌-◌, ◌*◌, ◌/◌, ◌%◌, ◌≤◌, ◌<◌}
use native.Mathlib.Omega.{arith}
use lib.Dec.{eqb, leb, ltb}
use lib.Seq.{append_snoc}
use borrow.Author.Tests.{ltb-false, leb-true, eqb-true, lt-ltb, le-ltb, le-leb, eq-eqb, ne_eqb}
use Rattle.std.proofs.lemmas.Bool.{and_from, cases_lt}
use Rattle.bits.proofs.Tests.{and_left, and_right}
use Rattle.definitions.specs.Outcome.{ok, unless}
use Rattle.definitions.specs.Decimal.{digits_up_to, decimal}
use Rattle.definitions.proofs.Outcome.{no_refusal, unless-ok}
use Rattle.order_sheets_spec.specs.Sheets.{equals, line_feed, is_digit, digits, number}

-- ---- decimal

digits_enough : (a b n : ℕ) → n < a → n < b → digits_up_to a n ≡ digits_up_to b n
digits_enough zero b n h k = absurd (omega arith)
digits_enough (suc a) zero n h k = absurd (omega arith)
digits_enough (suc a) (suc b) n h k = go (ltb n 10) refl (λ l m. digits_enough a b (n / 10) l m)
  where
    go : (t : Bool) → ltb n 10 ≡ t → (n / 10 < a → n / 10 < b → digits_up_to a (n / 10) ≡ digits_up_to b (n / 10))
        → cond t ((48 + n) ∷ []) (digits_up_to a (n / 10) ++ ((48 + n % 10) ∷ [])) ≡ cond t ((48 + n) ∷ []) (digits_up_to b (n / 10) ++ ((48 + n % 10) ∷ []))
    go true e ih = refl
    go false e ih = let l = ltb-false n 10 e in ap (λ d. d ++ ((48 + n % 10) ∷ [])) (ih (omega arith) (omega arith))

decimal-small : (n : ℕ) → n < 10 → decimal n ≡ (48 + n) ∷ []
unfolding decimal
decimal-small n h = rw (lt-ltb n 10 h)

decimal-more : (v d : ℕ) → 1 ≤ v → d < 10 → decimal (10 * v + d) ≡ decimal v ++ ((48 + d) ∷ [])
unfolding decimal
decimal-more v d h l =
    let q : (10 * v + d) / 10 ≡ v = omega arith in
    let r : (10 * v + d) % 10 ≡ d = omega arith in
    rw (le-ltb (10 * v + d) 10 (omega arith))
    (ap₂ (λ n m. digits_up_to (10 * v + d) n ++ ((48 + m) ∷ [])) q r
    ∙ ap (λ x. x ++ ((48 + d) ∷ [])) (digits_enough (10 * v + d) (suc v) v (omega arith) (omega arith)))

-- ---- is_digit

pub digit-true : (c : ℕ) → is_digit c ≡ true → (48 ≤ c) × (c ≤ 57)
digit-true c h = (leb-true 48 c (and_left _ _ h), leb-true c 57 (and_right (leb 48 c) _ h))

pub digit-from : (d : ℕ) → d < 10 → is_digit (48 + d) ≡ true
digit-from d h = and_from _ _ (le-leb 48 (48 + d) (omega arith)) (le-leb (48 + d) 57 (omega arith))

-- what ends a number is no digit
abbrev pub NoDigit : ℕ → Type 0
NoDigit end = (c : ℕ) → 48 ≤ c → c ≤ 57 → c ≡ end → ⊥

pub equals_ends : NoDigit equals
equals_ends c l u e = omega arith

pub line_feed_ends : NoDigit line_feed
line_feed_ends c l u e = omega arith

-- ---- the digits of a number are read

digits-step : (end : ℕ) → NoDigit end → (v d : ℕ) (t : List ℕ) → 1 ≤ v → d < 10 → digits end v ((48 + d) ∷ t) ≡ digits end (10 * v + d) t
unfolding digits
digits-step end nd v d t h l =
    rw (ne_eqb (48 + d) end (λ e. nd (48 + d) (omega arith) (omega arith) e), digit-from d l, le-leb 1 v h)
    (ap (λ n. digits end (10 * v + n) t) (let e : 48 + d - 48 ≡ d = omega arith in e))

number-first : (end d : ℕ) (t : List ℕ) → d < 10 → number end ((48 + d) ∷ t) ≡ digits end d t
unfolding number
number-first end d t l = rw (digit-from d l) (ap (λ n. digits end n t) (let e : 48 + d - 48 ≡ d = omega arith in e))

number-decimal : (end : ℕ) → NoDigit end → (most n : ℕ) (t : List ℕ) → n < most → number end (decimal n ++ t) ≡ digits end n t
number-decimal end nd zero n t h = absurd (omega arith)
number-decimal end nd (suc most) n t h =
    ⊎_elim
    (λ l. ap (λ x. number end (x ++ t)) (decimal-small n l) ∙ number-first end n t l)
    (λ l.
    let v = n / 10 in
    let d = n % 10 in
    let e : n ≡ 10 * v + d = omega arith in
    ap (λ n. number end (decimal n ++ t)) e
    ∙ ap (λ x. number end (x ++ t)) (decimal-more v d (omega arith) (omega arith))
    ∙ ap (number end) (append_snoc (decimal v) (48 + d) t)
    ∙ number-decimal end nd most v ((48 + d) ∷ t) (omega arith)
    ∙ digits-step end nd v d t (omega arith) (omega arith)
    ∙ ap (λ n. digits end n t) (sym e))
    (cases_lt n 10)

pub number-complete : (end : ℕ) → NoDigit end → (n : ℕ) (t : List ℕ) → number end (decimal n ++ (end ∷ t)) ≡ ok (n, t)
unfolding digits
number-complete end nd n t = number-decimal end nd (suc n) n (end ∷ t) (omega arith) ∙ rw (eq-eqb end end refl)

-- ---- and nothing else is

digits-sound : (end v : ℕ) (s : List ℕ) (n : ℕ) (t : List ℕ) → digits end v s ≡ ok (n, t) → decimal v ++ s ≡ decimal n ++ (end ∷ t)
unfolding digits
digits-sound end v [] n t e = no_refusal (n, t) 23 (sym e)
digits-sound end v (c ∷ s) n t e = go (eqb c end) refl (λ e. digits-sound end (10 * v + (c - 48)) s n t e) e
  where
    go : (b : Bool) → eqb c end ≡ b
        → (digits end (10 * v + (c - 48)) s ≡ ok (n, t) → decimal (10 * v + (c - 48)) ++ s ≡ decimal n ++ (end ∷ t))
        → cond b (ok (v, s)) (unless 23 (is_digit c && leb 1 v) (digits end (10 * v + (c - 48)) s)) ≡ ok (n, t) → decimal v ++ (c ∷ s) ≡ decimal n ++ (end ∷ t)
    go true p ih e = let q : ◌≡◌ {A = ℕ × List ℕ} (v, s) (n, t) = cc in ap₂ (λ (y : ℕ × List ℕ) c. decimal y.0 ++ (c ∷ y.1)) q (eqb-true c end p)
    go false p ih e =
        let r = unless-ok 23 _ _ (n, t) e in
        let d = digit-true c (and_left _ _ r.0) in
        let w : 48 + (c - 48) ≡ c = omega (arith, d.0) in
        sym
        (ap (λ x. x ++ s) (decimal-more v (c - 48) (leb-true 1 v (and_right _ _ r.0)) (omega (arith, d.1)))
        ∙ append_snoc (decimal v) (48 + (c - 48)) s
        ∙ ap (λ c. decimal v ++ (c ∷ s)) w)
        ∙ ih r.1

pub number-sound : (end : ℕ) (s : List ℕ) (n : ℕ) (t : List ℕ) → number end s ≡ ok (n, t) → s ≡ decimal n ++ (end ∷ t)
unfolding number
number-sound end [] n t e = no_refusal (n, t) 23 (sym e)
number-sound end (c ∷ s) n t e =
    let r = unless-ok 23 _ _ (n, t) e in
    let d = digit-true c r.0 in
    let w : 48 + (c - 48) ≡ c = omega (arith, d.0) in
    ap (λ c. c ∷ s) (sym w) ∙ ap (λ x. x ++ s) (sym (decimal-small (c - 48) (omega (arith, d.1)))) ∙ digits-sound end (c - 48) s n t r.1
