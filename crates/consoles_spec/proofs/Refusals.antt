-- An add is a chain of two tests, each of which fails exactly on its number's condition; a refused call and a slot with nobody waiting leave the state.
-- Assumes nothing.
use mathlib.Core.Path.{◌≡◌, refl, ap}
use mathlib.Core.Bool.{Bool, ◌||◌, true, false}
use mathlib.Core.List.{[], ◌∷◌}
use mathlib.Core.Logic.{◌↔◌}
use Prim.Native.Nat.{ℕ, ◌<◌}
use Rattle.std.specs.Prelude.{Option, Some, None}
use native.Mathlib.Omega.{arith}
use lib.Dec.{eqb, ltb}
use borrow.Author.Tests.{lt-ltb, le-ltb, ltb-false}
use Rattle.definitions.specs.Outcome.{Outcome, refused, ok}
use Rattle.definitions.specs.Refusals.{FirstOf}
use Rattle.definitions.proofs.Outcome.{Decides, Fails, also, same_number, no_refusal, refuses-first, both}
use Rattle.consoles_spec.specs.declared.Consoles.{Consoles}
use Rattle.consoles_spec.specs.Calls.{waiting_at, after_taking, Call, add, slot, Reply, refusal, taken, nobody, add_call, add_step, next_waiting, slot_step, consoles_step}
use Rattle.consoles_spec.specs.Claims.{NobodyWaits, console_order, AddFault, RefusesConsoles}
use Rattle.consoles_spec.proofs.Search.{Found, slot-found}
use Rattle.consoles_spec.proofs.Adding.{add-ok}
use Rattle.consoles_spec.proofs.RoundRobin.{right_slot}

module _ (s : Consoles) (c : ℕ) where
  above-fails : Fails (AddFault s c) (11, ltb c 8)
  above-fails = ((λ h. AddFault.console_above (ltb-false _ _ h)), back)
    where
      back : AddFault s c 11 → ltb c 8 ≡ false
      back (AddFault.console_above h) = le-ltb _ _ h

  full-fails : Fails (AddFault s c) (27, ltb (waiting_at c s) 100)
  full-fails = ((λ h. AddFault.full (ltb-false _ _ h)), back)
    where
      back : AddFault s c 27 → ltb (waiting_at c s) 100 ≡ false
      back (AddFault.full h) = le-ltb _ _ h

  abbrev of_add : ℕ → Bool
  of_add n = eqb n 11 || eqb n 27

  add-only : (n : ℕ) → AddFault s c n → of_add n ≡ true
  add-only n (AddFault.console_above h) = refl
  add-only n (AddFault.full h) = refl

  add-first : (n : ℕ) → (add_call s c ≡ refused n) ↔ FirstOf (AddFault s c) console_order n
  unfolding add_call
  add-first n =
      let fault = AddFault s c in
      refuses-first fault of_add add-only console_order ((11, ltb c 8) ∷ (27, ltb (waiting_at c s) 100) ∷ []) (after_taking c s) n refl
      (also fault _ _ above-fails (also fault _ _ full-fails Decides.none))

  add-takes : c < 8 → waiting_at c s < 100 → add_call s c ≡ ok (after_taking c s)
  unfolding add_call
  add-takes h f = rw (lt-ltb c 8 h, lt-ltb (waiting_at c s) 100 f)

-- ---- replies

refused-reply : (o : Outcome Consoles) (s : Consoles) (n : ℕ) → ((add_step o s).0 ≡ refusal n) ↔ (o ≡ refused n)
refused-reply (refused m) s n = ((λ e. let z : m ≡ n = cc in ap refused z), (λ e. ap refusal (same_number m n e)))
refused-reply (ok t) s n = ((λ e. absurd (let z : ◌≡◌ {A = ℕ} 0 1 = cc in omega arith)), (λ e. no_refusal t n e))

taken-reply : (o : Outcome Consoles) (s : Consoles) → (add_step o s).0 ≡ taken → (t : Consoles) × (o ≡ ok t)
taken-reply (refused m) s e = absurd (let z : ◌≡◌ {A = ℕ} 0 1 = cc in omega arith)
taken-reply (ok t) s e = (t, refl)

add-kept : (s : Consoles) (n : ℕ) (o : Outcome Consoles) → (add_step o s).0 ≡ refusal n → (add_step o s).1 ≡ s
add-kept s n (refused m) e = refl
add-kept s n (ok t) e = absurd (let z : ◌≡◌ {A = ℕ} 0 1 = cc in omega arith)

slot-kept : (s : Consoles) (n : ℕ) (r : Option ℕ) → (slot_step r s).0 ≡ refusal n → (slot_step r s).1 ≡ s
slot-kept s n None e = refl
slot-kept s n (Some c) e = absurd (let z : ◌≡◌ {A = ℕ} 0 1 = cc in omega arith)

step-kept : (s : Consoles) (call : Call) (n : ℕ) → (consoles_step s call).0 ≡ refusal n → (consoles_step s call).1 ≡ s
step-kept s (add c) n e = add-kept s n (add_call s c) e
step-kept s slot n e = slot-kept s n (next_waiting s) e

slot-idle : (s : Consoles) (r : Option ℕ) → Found s s.next 8 r → NobodyWaits s → ◌≡◌ {A = Reply × Consoles} (slot_step r s) (nobody, s)
slot-idle s (Some c) f h = absurd (omega (arith, f.waits, h c (omega (arith, f.there))))
slot-idle s None f h = refl

pub refuses_consoles : RefusesConsoles consoles_step
refuses_consoles = record {
  adds = λ s c n. both (refused-reply (add_call s c) s n) (add-first s c n);
  takes = λ s c. (
    (λ e. let t = taken-reply (add_call s c) s e in let a = add-ok s c t.0 t.1 in (a.0, a.1)),
    (λ h. ap (λ o. (add_step o s).0) (add-takes s c h.0 h.1)),
  );
  slots = λ s. (s.next, right_slot s.next s (next_waiting s) refl (slot-found s));
  kept = step-kept;
  idle = λ s h. slot-idle s (next_waiting s) (slot-found s) h;
}
