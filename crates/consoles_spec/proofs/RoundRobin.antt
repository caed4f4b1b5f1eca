-- The turn goes around the ring, and a console with a frame waiting is served within eight slots: each slot that serves another console brings
-- the start of the search nearer to it. Assumes nothing.
use mathlib.Core.Path.{◌≡◌, refl, sym, ap, ◌∙◌, subst}
use mathlib.Core.Logic.{◌⊎◌, inl, inr, ⊎_elim}
use mathlib.Core.Bool.{Bool, true, false, cond}
use mathlib.Core.List.{List, ◌∷◌}
use Prim.Native.Nat.{ℕ, ◌+◌, ◌-◌, ◌%◌, ◌≤◌, ◌<◌}
use Rattle.std.specs.Prelude.{Option, Some, None}
use native.Mathlib.Omega.{arith}
use lib.Arith.{lt_of_le-ne}
use lib.Dec.{eqb, leb}
use lib.ListN.{length, get_or, length-set, get_or-eq_default}
use lib.Seq.{get_or-set_other}
use borrow.Author.Tests.{leb-true, leb-false, eqb-true, eqb-false}
use Rattle.definitions.specs.Outcome.{Outcome, refused, ok}
use Rattle.definitions.specs.Runs.{Log, after}
use Rattle.definitions.proofs.Runs.{after-keeps}
use Rattle.consoles_spec.specs.declared.Consoles.{Consoles}
use Rattle.consoles_spec.specs.Calls.{fresh_consoles, waiting_at, Call, add, slot, Reply, add_call, add_step, next_waiting, slot_step, consoles_step}
use Rattle.consoles_spec.specs.Claims.{one_served, served_in, start_in, slots_in, RightSlot, RoundRobin}
use Rattle.consoles_spec.proofs.Search.{Found, slot-found}
use Rattle.consoles_spec.proofs.Adding.{add-ok}
use Rattle.consoles_spec.proofs.Lists.{get_or-set}
use Rattle.consoles_spec.proofs.Count.{after-fits}

-- ---- distances around the ring, over bare numbers

-- how many places console c lies behind place p
abbrev distance : (p c : ℕ) → ℕ
distance p c = (c + 8 - p % 8) % 8

distance-there : (p c : ℕ) → c ≤ 7 → (p + distance p c) % 8 ≡ c
distance-there p c h = omega arith

distance-unique : (p c k : ℕ) → c ≡ (p + k) % 8 → k ≤ 7 → distance p c ≡ k
distance-unique p c k e h = omega arith

-- seen from behind a console d that is nearer than c
from_behind : (p k g d c : ℕ) → d ≡ (p + k) % 8 → c ≡ (p + g) % 8 → k < g → c ≡ ((d + 1) % 8 + (g - (k + 1))) % 8
from_behind p k g d c e f h = omega arith

distance-falls : (p k g d c m : ℕ) → d ≡ (p + k) % 8 → c ≡ (p + g) % 8 → k < g → g + m ≤ 7 → distance ((d + 1) % 8) c + (1 + m) ≤ 7
distance-falls p k g d c m e f h n =
    subst (λ x. x + (1 + m) ≤ 7) (sym (distance-unique ((d + 1) % 8) c (g - (k + 1)) (from_behind p k g d c e f h) (omega arith)))
    (omega arith)

-- ---- what a slot answers

-- a search finds the same from any place that is the same around the ring
pub right_slot : (p : ℕ) (s : Consoles) (r : Option ℕ) → s.next % 8 ≡ p % 8 → Found s s.next 8 r → RightSlot p s (slot_step r s).0
right_slot p s (Some c) e f = record {
  steps = f.steps;
  few = f.few;
  there = omega (arith, f.there);
  waits = f.waits;
  first =
      λ j h.
      ap (λ i. get_or s.waiting i 0) (let e : (p + j) % 8 ≡ (s.next + j) % 8 = omega arith in e) ∙ f.first j h;
}
right_slot p s None e f =
    λ c h. ap (λ i. get_or s.waiting i 0) (sym (distance-there s.next c (omega (arith, h)))) ∙ f (distance s.next c) (omega arith)

-- ---- within eight slots

-- console c has a frame waiting, and after m slots the search starts within 7 - m places of it
record Waits (s : Consoles) (c m : ℕ) : Type 0 where
  whole : length s.waiting ≡ 8
  some : 1 ≤ waiting_at c s
  near : distance s.next c + m ≤ 7

waits-low : (s : Consoles) (c : ℕ) → length s.waiting ≡ 8 → 1 ≤ waiting_at c s → c ≤ 7
waits-low s c l h = go (leb c 7) refl
  where
    go : (b : Bool) → leb c 7 ≡ b → c ≤ 7
    go true e = leb-true c 7 e
    go false e = absurd (omega (arith, get_or-eq_default s.waiting 0 {n = c} (omega (arith, leb-false c 7 e))))

module _ (s : Consoles) (c m : ℕ) (w : Waits s c m) where
  -- a search that went past n places, all empty, has not come past c
  not_passed : (n : ℕ) → ((j : ℕ) → j < n → get_or s.waiting ((s.next + j) % 8) 0 ≡ 0) → n ≤ distance s.next c
  not_passed n f = go (leb n (distance s.next c)) refl
    where
      go : (b : Bool) → leb n (distance s.next c) ≡ b → n ≤ distance s.next c
      go true e = leb-true n _ e
      go false e =
          let z =
          ap (λ i. get_or s.waiting i 0) (sym (distance-there s.next c (waits-low s c w.whole w.some)))
          ∙ f (distance s.next c) (leb-false n _ e) in
          absurd (omega (arith, w.some))

  -- an add takes nothing away
  more-waits : (b : Bool) (x : ℕ) → (b ≡ true → x ≡ waiting_at c s) → 1 ≤ cond b (x + 1) (waiting_at c s)
  more-waits true x h = omega arith
  more-waits false x h = w.some

  add-waits : (d : ℕ) (o : Outcome Consoles) → add_call s d ≡ o → Waits (add_step o s).1 c m
  add-waits d (refused n) e = w
  add-waits d (ok t) e =
      let a = add-ok s d t e in
      let l : d < length s.waiting = omega (arith, w.whole, a.0) in
      subst (λ t. Waits t c m) a.2 (record {
        whole = length-set s.waiting d _ ∙ w.whole;
        some =
            subst (λ n. 1 ≤ n) (sym (get_or-set s.waiting d _ c l))
            (more-waits (eqb d c) (waiting_at d s) (λ e. ap (λ c. waiting_at c s) (eqb-true d c e)));
        near = w.near;
      })

  -- a slot serves c, or brings the search nearer to it
  slot-waits : (r : Option ℕ) → Found s s.next 8 r → (1 ≤ one_served c (slot_step r s).0) ⊎ Waits (slot_step r s).1 c (1 + m)
  slot-waits (Some d) f = go (eqb d c) refl
    where
      go : (b : Bool) → eqb d c ≡ b → (1 ≤ cond b 1 0) ⊎ Waits (slot_step (Some d) s).1 c (1 + m)
      go true e = inl (omega arith)
      go false e =
          let a = distance-there s.next c (waits-low s c w.whole w.some) in
          let other : f.steps ≡ distance s.next c → ⊥ = λ x. eqb-false d c e (f.there ∙ ap (λ k. (s.next + k) % 8) x ∙ a) in
          inr (record {
            whole = length-set s.waiting d _ ∙ w.whole;
            some = subst (λ n. 1 ≤ n) (sym (get_or-set_other s.waiting d c _ 0 (λ x. eqb-false d c e (sym x)))) w.some;
            near = distance-falls s.next f.steps (distance s.next c) d c m f.there (sym a) (lt_of_le-ne (not_passed f.steps f.first) other) w.near;
          })
  slot-waits None f = absurd (omega (arith, not_passed 8 f))

-- console c was served in these calls, or it still waits, and nearer
abbrev Soon : ℕ → List Call → Consoles → Log Call Reply → Type 0
Soon c cs s es = (1 ≤ served_in c es) ⊎ Waits s c (slots_in cs)

step-soon : (c : ℕ) (cs : List Call) (s : Consoles) (es : Log Call Reply) (call : Call) → Soon c cs s es
    → Soon c (call ∷ cs) (consoles_step s call).1 ((call, (consoles_step s call).0) ∷ es)
step-soon c cs s es (add d) k = ⊎_elim (λ y. inl (omega arith)) (λ w. inr (add-waits s c _ w d (add_call s d) refl)) k
step-soon c cs s es slot k =
    ⊎_elim (λ y. inl (omega arith)) (λ w. ⊎_elim (λ y. inl (omega arith)) (λ w. inr w) (slot-waits s c _ w (next_waiting s) (slot-found s))) k

after-soon : (s : Consoles) (c : ℕ) → length s.waiting ≡ 8 → 1 ≤ waiting_at c s → (cs : List Call)
    → Soon c cs (after s consoles_step cs).state (after s consoles_step cs).log
after-soon s c l h = after-keeps s consoles_step (Soon c) (inr (record { whole = l; some = h; near = omega arith })) (step-soon c)

pub round_robin : RoundRobin fresh_consoles consoles_step
round_robin = record {
  turn =
      λ cs.
      let s = (after fresh_consoles consoles_step cs).state in
      right_slot (start_in (after fresh_consoles consoles_step cs).log) s (next_waiting s) (omega (arith, (after-fits cs).start)) (slot-found s);
  within_eight =
      λ earlier later c h n.
      ⊎_elim (λ y. y) (λ w. absurd (omega (arith, w.near)))
      (after-soon (after fresh_consoles consoles_step earlier).state c (after-fits earlier).whole h later);
}
