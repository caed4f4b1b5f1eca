-- Programs that are not the consoles', and the claim of Claims.antt that each fails. Nothing of the papers is defined here.
use Rattle.std.specs.Prelude.{cond, ℕ, ◌+◌, ◌%◌, Option, Some, None, eqb, ltb}
use Rattle.consoles_spec.specs.declared.Consoles.{Consoles}
use Rattle.consoles_spec.specs.Calls.{console_count, most_waiting, consoles_by, fresh_consoles, waiting_at, after_taking, add, slot, Reply, refusal, taken, nobody, next_waiting, slot_step, ConsoleProgram, consoles_step}
use Rattle.consoles_spec.specs.Claims.{KeepsCount, RoundRobin, RefusesConsoles}

-- one that always serves the lowest console that waits: every search starts at console 0
abbrev pub serves_lowest : ConsoleProgram
serves_lowest s (add c) = consoles_step s (add c)
serves_lowest s slot = consoles_step (consoles_by s.waiting 0) slot

-- one whose search starts at console 0 again after each add
abbrev pub starts_again : Reply × Consoles → Reply × Consoles
starts_again r = (r.0, consoles_by r.1.waiting 0)

abbrev pub restarts_at_adds : ConsoleProgram
restarts_at_adds s (add c) = starts_again (consoles_step s (add c))
restarts_at_adds s slot = consoles_step s slot

-- one that moves the turn on at a slot with nobody waiting
abbrev pub moving_step : Option ℕ → Consoles → Reply × Consoles
moving_step (Some c) s = slot_step (Some c) s
moving_step None s = (nobody, consoles_by s.waiting ((s.next + 1) % console_count))

abbrev pub moves_when_empty : ConsoleProgram
moves_when_empty s (add c) = consoles_step s (add c)
moves_when_empty s slot = moving_step (next_waiting s) s

-- one that takes a frame in at a full console, and loses it
abbrev pub loses_when_full : ConsoleProgram
loses_when_full s (add c) = cond (ltb (waiting_at c s) most_waiting) (consoles_step s (add c)) (taken, s)
loses_when_full s slot = consoles_step s slot

-- one that takes a 101st frame in
abbrev pub takes_one_more : ConsoleProgram
takes_one_more s (add c) = cond (eqb (waiting_at c s) most_waiting) (taken, after_taking c s) (consoles_step s (add c))
takes_one_more s slot = consoles_step s slot

-- one that answers 11 at a full console
abbrev pub full_is_eleven : ConsoleProgram
full_is_eleven s (add c) = cond (ltb (waiting_at c s) most_waiting) (consoles_step s (add c)) (refusal 11, s)
full_is_eleven s slot = consoles_step s slot

-- one whose search starts at console 0 again after an add that 27 refuses
abbrev pub moves_when_full : ConsoleProgram
moves_when_full s (add c) = cond (ltb (waiting_at c s) most_waiting) (consoles_step s (add c)) (refusal 27, consoles_by s.waiting 0)
moves_when_full s slot = consoles_step s slot

-- one that says nobody in a state with `next` above 7, though frames wait
abbrev pub idle_when_strange : ConsoleProgram
idle_when_strange s (add c) = consoles_step s (add c)
idle_when_strange s slot = cond (ltb s.next console_count) (consoles_step s slot) (nobody, s)

-- one that refuses everything
abbrev pub refuses_all : ConsoleProgram
refuses_all s c = (refusal 11, s)

pub record WrongConsoles : Type 0 where
  pub lowest : RoundRobin fresh_consoles serves_lowest → ⊥
  pub restarts : RoundRobin fresh_consoles restarts_at_adds → ⊥
  pub moves : RoundRobin fresh_consoles moves_when_empty → ⊥
  pub moved_idle : RefusesConsoles moves_when_empty → ⊥
  pub loses : KeepsCount fresh_consoles loses_when_full → ⊥
  pub exceeds : KeepsCount fresh_consoles takes_one_more → ⊥
  pub eleven : RefusesConsoles full_is_eleven → ⊥
  pub moved_full : RefusesConsoles moves_when_full → ⊥
  pub idle_strange : RefusesConsoles idle_when_strange → ⊥
  pub refuses : RefusesConsoles refuses_all → ⊥
