-- A chain of tests refuses by the number of the first that fails. So where each test fails exactly on a number's condition, it refuses by the
-- first number whose condition holds. By recursion over the tests. Assumes nothing.
use mathlib.Core.Path.{◌≡◌, refl, sym, ◌∙◌, subst}
use mathlib.Core.Bool.{Bool, true, false, cond, true≢false}
use mathlib.Core.List.{List, [], ◌∷◌, ◌++◌, map}
use mathlib.Core.Logic.{◌↔◌}
use Prim.Native.Nat.{ℕ}
use native.Mathlib.Omega.{arith}
use Rattle.definitions.specs.Outcome.{Outcome, refused, ok, unless, and_then}
use Rattle.definitions.specs.Refusals.{FirstOf}

-- a chain of `unless`, by its numbers and tests
abbrev pub judge : {A : Type 0} → List (ℕ × Bool) → A → Outcome A
judge [] a = ok a
judge (t ∷ ts) a = unless t.0 t.1 (judge ts a)

abbrev pub numbers : List (ℕ × Bool) → List ℕ
numbers ts = map (λ (t : ℕ × Bool). t.0) ts

abbrev pub Fails : (ℕ → Type 0) → ℕ × Bool → Type 0
Fails fault t = (t.1 ≡ false) ↔ fault t.0

-- each test fails exactly on its number's condition, where the tests in front of it hold
pub data Decides (fault : ℕ → Type 0) : List (ℕ × Bool) → Type 0 where
  none : Decides fault []
  test : {t : ℕ × Bool} {ts : List (ℕ × Bool)} → Fails fault t → (t.1 ≡ true → Decides fault ts) → Decides fault (t ∷ ts)

pub same_number : {A : Type 0} (m n : ℕ) → ◌≡◌ {A = Outcome A} (refused m) (refused n) → m ≡ n
same_number m n e = cc

pub same_value : {A : Type 0} (a b : A) → ok a ≡ ok b → a ≡ b
same_value a b e = cc

pub no_refusal : {A B : Type 0} (a : A) (n : ℕ) → ok a ≡ refused n → B
no_refusal a n e = absurd (let z : ◌≡◌ {A = ℕ} 0 1 = cc in omega arith)

refused-first : {A : Type 0} (fault : ℕ → Type 0) (ts : List (ℕ × Bool)) (a : A) (n : ℕ) → Decides fault ts → judge ts a ≡ refused n
    → FirstOf fault (numbers ts) n
refused-first fault [] a n d h = no_refusal a n h
refused-first fault ((m, false) ∷ ts) a n (Decides.test f d) h = subst (FirstOf fault (m ∷ numbers ts)) (same_number m n h) (FirstOf.here (f.0 refl))
refused-first fault ((m, true) ∷ ts) a n (Decides.test f d) h =
    FirstOf.later (λ x. let e : true ≡ false = f.1 x in cc) (refused-first fault ts a n (d refl) h)

first-refused : {A : Type 0} (fault : ℕ → Type 0) (ts : List (ℕ × Bool)) (a : A) (n : ℕ) → Decides fault ts → FirstOf fault (numbers ts) n
    → judge ts a ≡ refused n
first-refused fault [] a n d x = elim x [ ]
first-refused fault ((m, false) ∷ ts) a n (Decides.test f d) (FirstOf.here x) = refl
first-refused fault ((m, true) ∷ ts) a n (Decides.test f d) (FirstOf.here x) = let e : true ≡ false = f.1 x in cc
first-refused fault ((m, false) ∷ ts) a n (Decides.test f d) (FirstOf.later z x) = absurd (z (f.0 refl))
first-refused fault ((m, true) ∷ ts) a n (Decides.test f d) (FirstOf.later z x) = first-refused fault ts a n (d refl) x

refused-head : {A : Type 0} (fault : ℕ → Type 0) (m : ℕ) (ms : List ℕ) (n : ℕ) → fault m → FirstOf fault (m ∷ ms) n
    → ◌≡◌ {A = Outcome A} (refused m) (refused n)
refused-head fault m ms n x (FirstOf.here y) = refl
refused-head fault m ms n x (FirstOf.later z y) = absurd (z x)

-- the first number's condition holds
pub refuses-head : {A : Type 0} (fault : ℕ → Type 0) (m : ℕ) (ms : List ℕ) (n : ℕ) → fault m
    → (◌≡◌ {A = Outcome A} (refused m) (refused n)) ↔ FirstOf fault (m ∷ ms) n
refuses-head fault m ms n x = (
  (λ e. subst (FirstOf fault (m ∷ ms)) (same_number m n e) (FirstOf.here x)),
  (λ y. refused-head fault m ms n x y),
)

pub also : (fault : ℕ → Type 0) (t : ℕ × Bool) (ts : List (ℕ × Bool)) → Fails fault t → Decides fault ts → Decides fault (t ∷ ts)
also fault t ts e d = Decides.test e (λ h. d)

-- ---- numbers without a condition

abbrev pub kept : (ℕ → Bool) → List ℕ → List ℕ
kept p [] = []
kept p (n ∷ ns) = cond (p n) (n ∷ kept p ns) (kept p ns)

-- where p holds of each number that has a condition, the others can be left out
module _ (fault : ℕ → Type 0) (p : ℕ → Bool) (only : (n : ℕ) → fault n → p n ≡ true) where
  with_one : (ns : List ℕ) (m : ℕ) (b : Bool) (n : ℕ) → p m ≡ b → (FirstOf fault (kept p ns) n → FirstOf fault ns n)
      → FirstOf fault (cond b (m ∷ kept p ns) (kept p ns)) n → FirstOf fault (m ∷ ns) n
  with_one ns m true n e ih (FirstOf.here x) = FirstOf.here x
  with_one ns m true n e ih (FirstOf.later z x) = FirstOf.later z (ih x)
  with_one ns m false n e ih x = FirstOf.later (λ y. absurd (true≢false (sym (only m y) ∙ e))) (ih x)

  without_one : (ns : List ℕ) (m : ℕ) (b : Bool) (n : ℕ) → p m ≡ b → (FirstOf fault ns n → FirstOf fault (kept p ns) n)
      → FirstOf fault (m ∷ ns) n → FirstOf fault (cond b (m ∷ kept p ns) (kept p ns)) n
  without_one ns m true n e ih (FirstOf.here x) = FirstOf.here x
  without_one ns m true n e ih (FirstOf.later z x) = FirstOf.later z (ih x)
  without_one ns m false n e ih (FirstOf.here x) = absurd (true≢false (sym (only m x) ∙ e))
  without_one ns m false n e ih (FirstOf.later z x) = ih x

  first-kept : (ns : List ℕ) (n : ℕ) → FirstOf fault (kept p ns) n ↔ FirstOf fault ns n
  first-kept [] n = ((λ x. x), (λ x. x))
  first-kept (m ∷ ns) n =
      let r = first-kept ns n in
      ((λ x. with_one ns m (p m) n refl r.0 x), (λ x. without_one ns m (p m) n refl r.1 x))

  -- a chain whose tests are of those numbers, in that order
  pub refuses-first : {A : Type 0} (ns : List ℕ) (ts : List (ℕ × Bool)) (a : A) (n : ℕ) → numbers ts ≡ kept p ns → Decides fault ts
      → (judge ts a ≡ refused n) ↔ FirstOf fault ns n
  refuses-first ns ts a n e d =
      let k = first-kept ns n in (
        (λ h. k.0 (subst (λ ms. FirstOf fault ms n) e (refused-first fault ts a n d h))),
        (λ x. first-refused fault ts a n d (subst (λ ms. FirstOf fault ms n) (sym e) (k.1 x))),
      )

pub both : {A B C : Type 0} → A ↔ B → B ↔ C → A ↔ C
both p q = ((λ a. q.0 (p.0 a)), (λ c. p.1 (q.1 c)))

-- a chain, and then another
pub judge-then : {A B : Type 0} (ts us : List (ℕ × Bool)) (a : A) (b : B) (next : A → Outcome B) → next a ≡ judge us b
    → and_then (judge ts a) next ≡ judge (ts ++ us) b
judge-then [] us a b next e = e
judge-then ((n, true) ∷ ts) us a b next e = judge-then ts us a b next e
judge-then ((n, false) ∷ ts) us a b next e = refl

-- what comes first is there
pub first-holds : (fault : ℕ → Type 0) (ns : List ℕ) (n : ℕ) → FirstOf fault ns n → fault n
first-holds fault [] n x = elim x [ ]
first-holds fault (m ∷ ns) n (FirstOf.here x) = x
first-holds fault (m ∷ ns) n (FirstOf.later z x) = first-holds fault ns n x

-- ---- what shows a value

pub and_then-ok : {A B : Type 0} (o : Outcome A) (next : A → Outcome B) (b : B) → and_then o next ≡ ok b → (a : A) × (o ≡ ok a) × (next a ≡ ok b)
and_then-ok (refused n) next b h = no_refusal b n (sym h)
and_then-ok (ok a) next b h = (a, refl, h)

pub unless-ok : {A : Type 0} (n : ℕ) (t : Bool) (o : Outcome A) (a : A) → unless n t o ≡ ok a → (t ≡ true) × (o ≡ ok a)
unless-ok n true o a h = (refl, h)
unless-ok n false o a h = no_refusal a n (sym h)

-- two calls that show the same values and refuse by the same numbers are the same
pub same-answer : {A : Type 0} (o p : Outcome A) → ((a : A) → o ≡ ok a → p ≡ ok a) → ((n : ℕ) → o ≡ refused n → p ≡ refused n) → o ≡ p
same-answer (refused n) p f g = sym (g n refl)
same-answer (ok a) p f g = sym (f a refl)
