-- The wrong programs do not meet the claims: each is tried on one list of calls, or one call. Assumes nothing.
use mathlib.Core.Path.{◌≡◌, refl, ap}
use mathlib.Core.List.{List, [], ◌∷◌}
use Prim.Native.Nat.{ℕ, zero, suc, ◌≤◌}
use native.Mathlib.Omega.{arith}
use lib.ListN.{replicate}
use Rattle.definitions.specs.Refusals.{FirstOf}
use Rattle.consoles_spec.specs.declared.Consoles.{Consoles}
use Rattle.consoles_spec.specs.Calls.{consoles_by, fresh_consoles, Call, add, slot, add_call, first_waiting}
use Rattle.consoles_spec.specs.Claims.{KeepsCount, RoundRobin, FirstWaiting, AddFault, RefusesConsoles}
use Rattle.consoles_spec.specs.WrongConsoles.{serves_lowest, restarts_at_adds, moves_when_empty, loses_when_full, takes_one_more, full_is_eleven, moves_when_full, idle_when_strange, refuses_all, WrongConsoles}
use Rattle.consoles_spec.proofs.Count.{none-waits}

-- n slots, each behind an add at console 0
abbrev alternate : ℕ → List Call
alternate zero = []
alternate (suc n) = slot ∷ add 0 ∷ alternate n

-- console 1 waits with eight frames of console 0: all eight slots serve console 0
lowest_served : RoundRobin fresh_consoles serves_lowest → ⊥
unfolding add_call first_waiting
lowest_served r =
    let n : 1 ≤ 0 = r.within_eight (add 1 ∷ replicate 8 (add 0)) (replicate 8 slot) 1 (omega arith) (omega arith) in
    omega arith

-- console 1 waits, and a frame of console 0 comes before each of eight slots
restarted : RoundRobin fresh_consoles restarts_at_adds → ⊥
unfolding add_call first_waiting
restarted r =
    let n : 1 ≤ 0 = r.within_eight (add 1 ∷ []) (alternate 8) 1 (omega arith) (omega arith) in
    omega arith

-- after a slot with nobody waiting, consoles 0 and 1 each have a frame waiting: console 1 is served
moved : RoundRobin fresh_consoles moves_when_empty → ⊥
unfolding add_call first_waiting
moved r =
    let f : FirstWaiting _ 0 8 1 = r.turn (add 1 ∷ add 0 ∷ slot ∷ []) in
    let e : ◌≡◌ {A = ℕ} 1 0 = f.first 0 (omega (arith, f.there)) in
    omega arith

-- 101 frames are taken in at console 0, and 100 wait
lost : KeepsCount fresh_consoles loses_when_full → ⊥
unfolding add_call
lost k =
    let e : ◌≡◌ {A = ℕ} 101 100 = k.balance (replicate 101 (add 0)) 0 in
    omega arith

-- with nobody waiting the turn goes from console 0 to console 1
moved-idle : RefusesConsoles moves_when_empty → ⊥
unfolding first_waiting
moved-idle f =
    let e : ◌≡◌ {A = ℕ} 1 0 = ap (λ r. r.1.next) (f.idle fresh_consoles (λ c h. none-waits c)) in
    omega arith

-- 101 frames wait at console 0
exceeded : KeepsCount fresh_consoles takes_one_more → ⊥
unfolding add_call
exceeded k =
    let n : 101 ≤ 100 = k.limit (replicate 101 (add 0)) 0 in
    omega arith

-- console 0 is full
abbrev full_at_zero : (next : ℕ) → Consoles
full_at_zero n = consoles_by (100 ∷ replicate 7 0) n

said_eleven : RefusesConsoles full_is_eleven → ⊥
said_eleven f =
    let e = (f.adds (full_at_zero 0) 0 27).1 (FirstOf.later not_above (FirstOf.here (AddFault.full (omega arith)))) in
    let z : ◌≡◌ {A = ℕ} 11 27 = cc in
    omega arith
  where
    not_above : AddFault (full_at_zero 0) 0 11 → ⊥
    not_above (AddFault.console_above h) = omega arith

moved-full : RefusesConsoles moves_when_full → ⊥
moved-full f =
    let e : ◌≡◌ {A = ℕ} 0 1 = ap (λ (s : Consoles). s.next) (f.kept (full_at_zero 1) (add 0) 27 refl) in
    omega arith

-- a frame waits at console 0
idle-strange : RefusesConsoles idle_when_strange → ⊥
idle-strange f =
    let e : ◌≡◌ {A = ℕ} 1 0 = (f.slots (consoles_by (1 ∷ replicate 7 0) 8)).1 0 (omega arith) in
    omega arith

-- a frame of console 0 is refused
all_refused : RefusesConsoles refuses_all → ⊥
all_refused f =
    let e = (f.takes fresh_consoles 0).1 (omega arith, omega arith) in
    let z : ◌≡◌ {A = ℕ} 0 1 = cc in
    omega arith

pub wrong_consoles : WrongConsoles
wrong_consoles = record {
  lowest = lowest_served;
  restarts = restarted;
  moves = moved;
  moved_idle = moved-idle;
  loses = lost;
  exceeds = exceeded;
  eleven = said_eleven;
  moved_full = moved-full;
  idle_strange = idle-strange;
  refuses = all_refused;
}
