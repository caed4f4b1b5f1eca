-- What a search around the ring finds: the first of its places with a frame waiting, or none. By induction over its places. Assumes nothing.
use mathlib.Core.Path.{◌≡◌, refl, ap, ap₂, ◌∙◌}
use mathlib.Core.Bool.{Bool, true, false, cond}
use mathlib.Core.List.{List}
use Prim.Native.Nat.{ℕ, zero, suc, ◌+◌, ◌-◌, ◌%◌, ◌≤◌, ◌<◌}
use Rattle.std.specs.Prelude.{Option, Some, None}
use native.Mathlib.Omega.{arith}
use lib.Dec.{leb}
use lib.ListN.{get_or}
use borrow.Author.Tests.{leb-true, leb-false, le-leb, lt-leb}
use Rattle.consoles_spec.specs.declared.Consoles.{Consoles}
use Rattle.consoles_spec.specs.Calls.{waiting_at, first_waiting, next_waiting}
use Rattle.consoles_spec.specs.Claims.{FirstWaiting}

-- ---- a step of the search, for a loop

module _ (w : List ℕ) (p : ℕ) where
  pub first_waiting_here : (n : ℕ) → 1 ≤ n → 0 < get_or w (p % 8) 0 → first_waiting w p n ≡ Some (p % 8)
  unfolding first_waiting
  first_waiting_here zero h f = absurd (omega arith)
  first_waiting_here (suc n) h f = rw (le-leb 1 (get_or w (p % 8) 0) f)

  pub first_waiting_past : (n : ℕ) → 1 ≤ n → get_or w (p % 8) 0 ≤ 0 → first_waiting w p n ≡ first_waiting w (p + 1) (n - 1)
  unfolding first_waiting
  first_waiting_past zero h f = absurd (omega arith)
  first_waiting_past (suc n) h f =
      rw (lt-leb 1 (get_or w (p % 8) 0) (omega arith))
      (ap₂ (first_waiting w) (let e : suc p ≡ p + 1 = omega arith in e) (let e : n ≡ suc n - 1 = omega arith in e))

  pub first_waiting_none : (n : ℕ) → n ≤ 0 → first_waiting w p n ≡ None
  unfolding first_waiting
  first_waiting_none zero h = refl
  first_waiting_none (suc n) h = absurd (omega arith)

-- ---- what it finds

abbrev pub Found : Consoles → (p n : ℕ) → Option ℕ → Type 0
Found s p n (Some c) = FirstWaiting s p n c
Found s p n None = (j : ℕ) → j < n → waiting_at ((p + j) % 8) s ≡ 0

module _ (s : Consoles) (p n : ℕ) (none : waiting_at (p % 8) s ≡ 0) where
  none-up_to : (j m : ℕ) → ((j : ℕ) → j < m → waiting_at ((suc p + j) % 8) s ≡ 0) → j < suc m → waiting_at ((p + j) % 8) s ≡ 0
  none-up_to zero m f h = ap (λ i. waiting_at (i % 8) s) (let e : p + 0 ≡ p = omega arith in e) ∙ none
  none-up_to (suc j) m f h = ap (λ i. waiting_at (i % 8) s) (let e : p + suc j ≡ suc p + j = omega arith in e) ∙ f j (omega arith)

  found-later : (r : Option ℕ) → Found s (suc p) n r → Found s p (suc n) r
  found-later (Some c) f = record {
    steps = suc f.steps;
    few = omega (arith, f.few);
    there = f.there ∙ ap (λ i. i % 8) (let e : suc p + f.steps ≡ p + suc f.steps = omega arith in e);
    waits = f.waits;
    first = λ j h. none-up_to j f.steps f.first h;
  }
  found-later None f = λ j h. none-up_to j n f h

pub first_waiting-found : (s : Consoles) (p n : ℕ) → Found s p n (first_waiting s.waiting p n)
unfolding first_waiting
first_waiting-found s p zero = λ j h. absurd (omega arith)
first_waiting-found s p (suc n) = go (leb 1 (waiting_at (p % 8) s)) refl (first_waiting-found s (suc p) n)
  where
    go : (b : Bool) → leb 1 (waiting_at (p % 8) s) ≡ b → Found s (suc p) n (first_waiting s.waiting (suc p) n)
        → Found s p (suc n) (cond b (Some (p % 8)) (first_waiting s.waiting (suc p) n))
    go true e f = record {
      steps = 0;
      few = omega arith;
      there = ap (λ i. i % 8) (let e : p ≡ p + 0 = omega arith in e);
      waits = leb-true 1 _ e;
      first = λ j h. absurd (omega arith);
    }
    go false e f = found-later s p n (omega (arith, leb-false 1 (waiting_at (p % 8) s) e)) (first_waiting s.waiting (suc p) n) f

pub slot-found : (s : Consoles) → Found s s.next 8 (next_waiting s)
slot-found s = first_waiting-found s s.next 8
