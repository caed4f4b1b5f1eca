-- What is claimed of the consoles (document 02, m), of any program over their state.
use Rattle.std.specs.Prelude.{◌≡◌, ◌↔◌, cond, List, [], ◌∷◌, ℕ, ◌+◌, ◌%◌, ◌≤◌, ◌<◌, eqb}
use Rattle.definitions.specs.Refusals.{FirstOf}
use Rattle.definitions.specs.Runs.{Log, after}
use Rattle.consoles_spec.specs.declared.Consoles.{Consoles}
use Rattle.consoles_spec.specs.Calls.{console_count, most_waiting, waiting_at, Call, add, slot, Reply, refusal, taken, served, nobody, ConsoleProgram}

-- ---- what the calls so far say; the latest comes first

-- 1 where a frame of console c was taken in, else 0
abbrev pub one_taken : (c : ℕ) → Call → Reply → ℕ
one_taken c (add d) taken = cond (eqb d c) 1 0
one_taken c (add d) (refusal n) = 0
one_taken c (add d) (served e) = 0
one_taken c (add d) nobody = 0
one_taken c slot r = 0

-- "frames taken in", of a console
abbrev pub taken_in : (c : ℕ) → Log Call Reply → ℕ
taken_in c [] = 0
taken_in c (e ∷ es) = one_taken c e.0 e.1 + taken_in c es

-- 1 where console c was served, else 0
abbrev pub one_served : (c : ℕ) → Reply → ℕ
one_served c (served d) = cond (eqb d c) 1 0
one_served c nobody = 0
one_served c taken = 0
one_served c (refusal n) = 0

-- "frames served", of a console
abbrev pub served_in : (c : ℕ) → Log Call Reply → ℕ
served_in c [] = 0
served_in c (e ∷ es) = one_served c e.1 + served_in c es

-- where the search starts after a reply: after the console that was served, else where it started before
abbrev pub start_after : Reply → (start : ℕ) → ℕ
start_after (served c) start = c + 1
start_after nobody start = start
start_after taken start = start
start_after (refusal n) start = start

-- "after the last served", "beginning with console 0"; 8, after console 7, is console 0 around the ring
abbrev pub start_in : Log Call Reply → ℕ
start_in [] = 0
start_in (e ∷ es) = start_after e.1 (start_in es)

-- how many slots are among these calls
abbrev pub slots_in : List Call → ℕ
slots_in [] = 0
slots_in (slot ∷ cs) = 1 + slots_in cs
slots_in (add c ∷ cs) = slots_in cs

-- ---- the claims, of any program

-- "Over any list of calls from a fresh state, frames taken in equal frames served plus frames waiting, for each console"
pub record KeepsCount (fresh : Consoles) (step : ConsoleProgram) : Type 0 where
  pub balance : (cs : List Call) (c : ℕ)
      → let r = after fresh step cs in
      taken_in c r.log ≡ served_in c r.log + waiting_at c r.state
  -- "up to 100 frames waiting"
  pub limit : (cs : List Call) (c : ℕ) → waiting_at c (after fresh step cs).state ≤ most_waiting

-- no console has a frame waiting
abbrev pub NobodyWaits : Consoles → Type 0
NobodyWaits s = (c : ℕ) → c < console_count → waiting_at c s ≡ 0

-- of so many consoles around the ring from `start` on, console c is the first with a frame waiting
pub record FirstWaiting (s : Consoles) (start many c : ℕ) : Type 0 where
  pub steps : ℕ
  pub few : steps < many
  pub there : c ≡ (start + steps) % console_count
  pub waits : 1 ≤ waiting_at c s
  pub first : (j : ℕ) → j < steps → waiting_at ((start + j) % console_count) s ≡ 0

-- what a slot may answer where the search starts at `start`
abbrev pub RightSlot : (start : ℕ) → Consoles → Reply → Type 0
RightSlot start s (served c) = FirstWaiting s start console_count c
RightSlot start s nobody = NobodyWaits s
RightSlot start s taken = ⊥
RightSlot start s (refusal n) = ⊥

pub record RoundRobin (fresh : Consoles) (step : ConsoleProgram) : Type 0 where
  -- "the next waiting console after the last served, around the ring, beginning with console 0"
  pub turn : (cs : List Call)
      → let r = after fresh step cs in
      RightSlot (start_in r.log) r.state (step r.state slot).0
  -- "A console with a frame waiting is served within eight slots, however the others add": after any calls, if it waits, and eight or more of the
  -- calls that come then are slots, one of these serves it
  pub within_eight : (earlier later : List Call) (c : ℕ)
      → let s = (after fresh step earlier).state in
      1 ≤ waiting_at c s → console_count ≤ slots_in later → 1 ≤ served_in c (after s step later).log

-- ---- refusals

-- "27 .. after 11"
abbrev pub console_order : List ℕ
console_order = 11 ∷ 27 ∷ []

-- 11 for a console above 7; "27 when a console already has 100 waiting"
pub data AddFault (s : Consoles) (c : ℕ) : ℕ → Type 0 where
  console_above : console_count ≤ c → AddFault s c 11
  full : most_waiting ≤ waiting_at c s → AddFault s c 27

-- in any state, also one that no call gave
pub record RefusesConsoles (step : ConsoleProgram) : Type 0 where
  -- an add is refused by the first number of the order whose condition holds, and else the frame is taken in
  pub adds : (s : Consoles) (c n : ℕ) → ((step s (add c)).0 ≡ refusal n) ↔ FirstOf (AddFault s c) console_order n
  pub takes : (s : Consoles) (c : ℕ) → ((step s (add c)).0 ≡ taken) ↔ ((c < console_count) × (waiting_at c s < most_waiting))
  -- a slot is right from some start: it serves a console with a frame waiting, or says nobody where none has one
  pub slots : (s : Consoles) → (start : ℕ) × RightSlot start s (step s slot).0
  -- "nothing changed"; "A slot with nobody waiting says so and changes nothing"
  pub kept : (s : Consoles) (call : Call) (n : ℕ) → (step s call).0 ≡ refusal n → (step s call).1 ≡ s
  pub idle : (s : Consoles) → NobodyWaits s → step s slot ≡ (nobody, s)

-- ---- no reply is left free

-- any two programs that meet the claims give the same replies to any list of calls
pub record ConsolesAgree : Type 0 where
  pub same : (fresh fresh' : Consoles) (step step' : ConsoleProgram)
      → KeepsCount fresh step → RoundRobin fresh step → RefusesConsoles step
      → KeepsCount fresh' step' → RoundRobin fresh' step' → RefusesConsoles step'
      → (cs : List Call) → (after fresh step cs).log ≡ (after fresh' step' cs).log
