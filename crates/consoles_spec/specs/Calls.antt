-- Eight consoles that share one adapter, and their calls (document 02, m).
use Rattle.std.specs.Prelude.{cond, List, ℕ, zero, suc, ◌+◌, ◌-◌, ◌%◌, Option, Some, None, leb, ltb, get_or, set, replicate}
use Rattle.definitions.specs.Outcome.{Outcome, refused, ok, unless}
use Rattle.definitions.specs.Runs.{Program}
use Rattle.consoles_spec.specs.declared.Consoles.{Consoles}

-- ---- the state

-- "Eight pupils"; the consoles are numbered from 0
abbrev pub console_count : ℕ
console_count = 8

-- "Each console may have up to 100 frames waiting"
abbrev pub most_waiting : ℕ
most_waiting = 100

-- how many frames wait at each console, console 0 first, and the console at which the next search starts: "only counts are kept, and the frames
-- stay with their consoles"
abbrev pub consoles_by : List ℕ → (next : ℕ) → Consoles
consoles_by w n = record { waiting = w; next = n }

-- nothing waits, "beginning with console 0"
abbrev pub fresh_consoles : Consoles
fresh_consoles = consoles_by (replicate console_count 0) 0

-- how many frames wait at a console, 0 for a number above 7
abbrev pub waiting_at : (console : ℕ) → Consoles → ℕ
waiting_at c s = get_or s.waiting c 0

-- a frame of a console comes; the adapter has a slot
pub data Call : Type 0 where
  add : (console : ℕ) → Call
  slot : Call

-- refused by a number; the frame is taken in; this console is served; nobody waits
pub data Reply : Type 0 where
  refusal : ℕ → Reply
  taken : Reply
  served : (console : ℕ) → Reply
  nobody : Reply

-- ---- Add: a frame of a console is taken in

abbrev pub after_taking : (console : ℕ) → Consoles → Consoles
after_taking c s = consoles_by (set s.waiting c (waiting_at c s + 1)) s.next

-- 11 for a console above 7; "27 when a console already has 100 waiting, after 11"
unfoldable pub add_call : Consoles → (console : ℕ) → Outcome Consoles
add_call s c = unless 11 (ltb c console_count) (unless 27 (ltb (waiting_at c s) most_waiting) (ok (after_taking c s)))

-- what it answers, and the state after it: at a refusal "nothing changed"
abbrev pub add_step : Outcome Consoles → Consoles → Reply × Consoles
add_step (refused n) s = (refusal n, s)
add_step (ok t) s = (taken, t)

-- ---- Slot: a console is served

-- the first console with a frame waiting, of so many consoles from `start` on around the ring
unfoldable pub first_waiting : List ℕ → (start many : ℕ) → Option ℕ
first_waiting w start zero = None
first_waiting w start (suc many) =
    cond (leb 1 (get_or w (start % console_count) 0)) (Some (start % console_count)) (first_waiting w (suc start) many)

-- "The turn goes to the next waiting console after the last served, around the ring": the last served itself comes last
abbrev pub next_waiting : Consoles → Option ℕ
next_waiting s = first_waiting s.waiting s.next console_count

-- one frame fewer waits at the console served, and the next search starts after it
abbrev pub after_serving : (console : ℕ) → Consoles → Consoles
after_serving c s = consoles_by (set s.waiting c (waiting_at c s - 1)) ((c + 1) % console_count)

-- "A slot names the console served"; "A slot with nobody waiting says so and changes nothing"
abbrev pub slot_step : Option ℕ → Consoles → Reply × Consoles
slot_step (Some c) s = (served c, after_serving c s)
slot_step None s = (nobody, s)

-- ---- the program

abbrev pub ConsoleProgram : Type 0
ConsoleProgram = Program Consoles Call Reply

abbrev pub consoles_step : ConsoleProgram
consoles_step s (add c) = add_step (add_call s c) s
consoles_step s slot = slot_step (next_waiting s) s
