-- Two programs that meet the claims answer alike: equal replies so far leave equal counts and the same place, and these fix the next reply.
-- Assumes nothing.
use mathlib.Core.Path.{◌≡◌, refl, sym, ap, ◌∙◌, subst}
use mathlib.Core.Bool.{Bool, true, false}
use mathlib.Core.List.{List}
use Prim.Native.Nat.{ℕ, ◌+◌, ◌%◌, ◌≤◌, ◌<◌}
use native.Mathlib.Omega.{arith}
use lib.Dec.{leb, ltb}
use borrow.Author.Tests.{leb-true, leb-false, ltb-true, ltb-false}
use Rattle.definitions.specs.Refusals.{FirstOf}
use Rattle.definitions.specs.Runs.{after}
use Rattle.definitions.proofs.Runs.{same-log}
use Rattle.consoles_spec.specs.declared.Consoles.{Consoles}
use Rattle.consoles_spec.specs.Calls.{waiting_at, Call, add, slot, Reply, refusal, taken, served, nobody, ConsoleProgram}
use Rattle.consoles_spec.specs.Claims.{taken_in, served_in, KeepsCount, FirstWaiting, RightSlot, RoundRobin, console_order, AddFault, RefusesConsoles, ConsolesAgree}

module _ (s t : Consoles) (equal : (c : ℕ) → waiting_at c s ≡ waiting_at c t) where
  -- the first cannot have passed over what the second found
  no-later : (p c d : ℕ) (f : FirstWaiting s p 8 c) (g : FirstWaiting t p 8 d) → g.steps < f.steps → ⊥
  no-later p c d f g h =
      let e = f.first g.steps h in
      let a : waiting_at ((p + g.steps) % 8) s ≡ waiting_at d t = ap (λ i. waiting_at i s) (sym g.there) ∙ equal d in
      omega (arith, g.waits)

module _ (s t : Consoles) (equal : (c : ℕ) → waiting_at c s ≡ waiting_at c t) where
  same-slot : (p : ℕ) (r u : Reply) → RightSlot p s r → RightSlot p t u → r ≡ u
  same-slot p (served c) (served d) f g =
      let n = no-later s t equal p c d f g in
      let m = no-later t s (λ c. sym (equal c)) p d c g f in
      let e : f.steps ≡ g.steps = omega arith in
      ap served (f.there ∙ ap (λ k. (p + k) % 8) e ∙ sym g.there)
  same-slot p (served c) nobody f g = absurd (omega (arith, f.waits, equal c, g c (omega (arith, f.there))))
  same-slot p nobody (served d) f g = absurd (omega (arith, g.waits, equal d, f d (omega (arith, g.there))))
  same-slot p nobody nobody f g = refl
  same-slot p (served c) taken f g = absurd g
  same-slot p (served c) (refusal n) f g = absurd g
  same-slot p nobody taken f g = absurd g
  same-slot p nobody (refusal n) f g = absurd g
  same-slot p taken u f g = absurd f
  same-slot p (refusal n) u f g = absurd f

  same-add : (step step' : ConsoleProgram) → RefusesConsoles step → RefusesConsoles step' → (d : ℕ) → (step s (add d)).0 ≡ (step' t (add d)).0
  same-add step step' j k d = go (ltb d 8) (leb 100 (waiting_at d s)) refl refl
    where
      -- 27 is the first of the order for a full console
      full : (u : Consoles) → d < 8 → 100 ≤ waiting_at d u → FirstOf (AddFault u d) console_order 27
      full u h w = FirstOf.later not_above (FirstOf.here (AddFault.full w))
        where
          not_above : AddFault u d 11 → ⊥
          not_above (AddFault.console_above a) = omega (arith, h)

      go : (a b : Bool) → ltb d 8 ≡ a → leb 100 (waiting_at d s) ≡ b → (step s (add d)).0 ≡ (step' t (add d)).0
      go false b e h =
          let a = ltb-false d 8 e in
          (j.adds s d 11).1 (FirstOf.here (AddFault.console_above a)) ∙ sym ((k.adds t d 11).1 (FirstOf.here (AddFault.console_above a)))
      go true true e h =
          let a = ltb-true d 8 e in
          let w = leb-true 100 _ h in
          (j.adds s d 27).1 (full s a w) ∙ sym ((k.adds t d 27).1 (full t a (subst (λ n. 100 ≤ n) (equal d) w)))
      go true false e h =
          let a = ltb-true d 8 e in
          let w = leb-false 100 _ h in
          (j.takes s d).1 (a, w) ∙ sym ((k.takes t d).1 (a, subst (λ n. n < 100) (equal d) w))

module _ (fresh fresh' : Consoles) (step step' : ConsoleProgram)
    (k : KeepsCount fresh step) (r : RoundRobin fresh step) (f : RefusesConsoles step)
    (k' : KeepsCount fresh' step') (r' : RoundRobin fresh' step') (f' : RefusesConsoles step') where
  same-counts : (cs : List Call) → (after fresh step cs).log ≡ (after fresh' step' cs).log
      → (c : ℕ) → waiting_at c (after fresh step cs).state ≡ waiting_at c (after fresh' step' cs).state
  same-counts cs e c = omega (arith, k.balance cs c, k'.balance cs c, ap (taken_in c) e, ap (served_in c) e)

  same-reply : (cs : List Call) (c : Call) → (after fresh step cs).log ≡ (after fresh' step' cs).log
      → (step (after fresh step cs).state c).0 ≡ (step' (after fresh' step' cs).state c).0
  same-reply cs (add d) e = same-add _ _ (same-counts cs e) step step' f f' d
  same-reply cs slot e = same-slot _ _ (same-counts cs e) _ _ _ (rw e at (r.turn cs)) (r'.turn cs)

pub consoles_agree : ConsolesAgree
consoles_agree = record {
  same = λ fresh fresh' step step' k r f k' r' f'.
      same-log fresh step fresh' step' (same-reply fresh fresh' step step' k r f k' r' f');
}
