-- Each call keeps the count: an add by one taken in, a slot by one served. So it holds after any list of calls. Assumes nothing.
use mathlib.Core.Path.{◌≡◌, refl, sym, ap, ◌∙◌, subst}
use mathlib.Core.Bool.{Bool, true, false, cond}
use mathlib.Core.List.{List, ◌∷◌}
use Prim.Native.Nat.{ℕ, zero, suc, ◌+◌, ◌-◌, ◌%◌, ◌≤◌, ◌<◌}
use Rattle.std.specs.Prelude.{Option, Some, None}
use native.Mathlib.Omega.{arith}
use lib.Dec.{eqb}
use lib.ListN.{length, get_or, replicate, length-set}
use borrow.Author.Tests.{eqb-true}
use Rattle.definitions.specs.Outcome.{Outcome, refused, ok}
use Rattle.definitions.specs.Runs.{Log, after}
use Rattle.definitions.proofs.Runs.{after-keeps}
use Rattle.consoles_spec.specs.declared.Consoles.{Consoles}
use Rattle.consoles_spec.specs.Calls.{fresh_consoles, waiting_at, Call, add, slot, Reply, taken, add_call, add_step, next_waiting, slot_step, consoles_step}
use Rattle.consoles_spec.specs.Claims.{taken_in, served_in, start_in, KeepsCount}
use Rattle.consoles_spec.proofs.Search.{Found, slot-found}
use Rattle.consoles_spec.proofs.Adding.{add-ok}
use Rattle.consoles_spec.proofs.Lists.{get_or-set}

-- a state that fits what the calls so far say
pub record Fits (s : Consoles) (es : Log Call Reply) : Type 0 where
  pub whole : length s.waiting ≡ 8
  pub start : s.next ≡ start_in es % 8
  pub balance : (c : ℕ) → taken_in c es ≡ served_in c es + waiting_at c s
  pub limit : (c : ℕ) → waiting_at c s ≤ 100

-- x waits at the console of the call, y at another or the same
more-balance : (b : Bool) (t s x y : ℕ) → (b ≡ true → x ≡ y) → t ≡ s + y → cond b 1 0 + t ≡ 0 + s + cond b (x + 1) y
more-balance true t s x y h e = omega (arith, h refl)
more-balance false t s x y h e = omega arith

fewer-balance : (b : Bool) (t s x y : ℕ) → (b ≡ true → x ≡ y) → 1 ≤ x → t ≡ s + y → 0 + t ≡ cond b 1 0 + s + cond b (x - 1) y
fewer-balance true t s x y h w e = omega (arith, h refl)
fewer-balance false t s x y h w e = omega arith

cond-at_most : (b : Bool) (x y n : ℕ) → x ≤ n → y ≤ n → cond b x y ≤ n
cond-at_most true x y n h g = h
cond-at_most false x y n h g = g

module _ (s : Consoles) (es : Log Call Reply) (k : Fits s es) where
  same-count : (d c : ℕ) → eqb d c ≡ true → waiting_at d s ≡ waiting_at c s
  same-count d c e = ap (λ c. waiting_at c s) (eqb-true d c e)

  add-fits : (d : ℕ) (o : Outcome Consoles) → add_call s d ≡ o → Fits (add_step o s).1 ((add d, (add_step o s).0) ∷ es)
  add-fits d (refused n) e = record { whole = k.whole; start = k.start; balance = λ c. omega (arith, k.balance c); limit = k.limit }
  add-fits d (ok t) e =
      let a = add-ok s d t e in
      let l : d < length s.waiting = omega (arith, k.whole, a.0) in
      subst (λ t. Fits t ((add d, taken) ∷ es)) a.2 (record {
        whole = length-set s.waiting d _ ∙ k.whole;
        start = k.start;
        balance =
            λ c.
            more-balance (eqb d c) (taken_in c es) (served_in c es) (waiting_at d s) (waiting_at c s) (same-count d c) (k.balance c)
            ∙ ap (λ n. 0 + served_in c es + n) (sym (get_or-set s.waiting d _ c l));
        limit = λ c. subst (λ n. n ≤ 100) (sym (get_or-set s.waiting d _ c l)) (cond-at_most (eqb d c) _ _ 100 (omega (arith, a.1)) (k.limit c));
      })

  slot-fits : (r : Option ℕ) → Found s s.next 8 r → Fits (slot_step r s).1 ((slot, (slot_step r s).0) ∷ es)
  slot-fits (Some d) f =
      let l : d < length s.waiting = omega (arith, k.whole, f.there) in
      record {
        whole = length-set s.waiting d _ ∙ k.whole;
        start = refl;
        balance =
            λ c.
            fewer-balance (eqb d c) (taken_in c es) (served_in c es) (waiting_at d s) (waiting_at c s) (same-count d c) f.waits (k.balance c)
            ∙ ap (λ n. cond (eqb d c) 1 0 + served_in c es + n) (sym (get_or-set s.waiting d _ c l));
        limit =
            λ c.
            subst (λ n. n ≤ 100) (sym (get_or-set s.waiting d _ c l)) (cond-at_most (eqb d c) _ _ 100 (omega (arith, k.limit d)) (k.limit c));
      }
  slot-fits None f = record { whole = k.whole; start = k.start; balance = λ c. omega (arith, k.balance c); limit = k.limit }

  step-fits : (c : Call) → Fits (consoles_step s c).1 ((c, (consoles_step s c).0) ∷ es)
  step-fits (add d) = add-fits d (add_call s d) refl
  step-fits slot = slot-fits (next_waiting s) (slot-found s)

pub none-waits : (c : ℕ) → waiting_at c fresh_consoles ≡ 0
none-waits c = zeros 8 c
  where
    zeros : (n c : ℕ) → ◌≡◌ {A = ℕ} (get_or (replicate n 0) c 0) 0
    zeros zero c = refl
    zeros (suc n) zero = refl
    zeros (suc n) (suc c) = zeros n c

pub after-fits : (cs : List Call) → Fits (after fresh_consoles consoles_step cs).state (after fresh_consoles consoles_step cs).log
after-fits = after-keeps fresh_consoles consoles_step (λ cs s es. Fits s es)
    (record { whole = refl; start = refl; balance = λ c. omega (arith, none-waits c); limit = λ c. omega (arith, none-waits c) })
    (λ cs s es c k. step-fits s es k c)

pub keeps_count : KeepsCount fresh_consoles consoles_step
keeps_count = record { balance = λ cs c. (after-fits cs).balance c; limit = λ cs c. (after-fits cs).limit c }
