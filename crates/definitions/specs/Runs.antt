-- What a program with a state does over any list of calls.
use Rattle.std.specs.Prelude.{List, [], ◌∷◌, map}

-- what a call answers in a state, and the state after it
abbrev pub Program : (S C R : Type 0) → Type 0
Program S C R = S → C → R × S

-- each call with its reply, the latest first
abbrev pub Log : (C R : Type 0) → Type 0
Log C R = List (C × R)

abbrev pub replies : {C R : Type 0} → Log C R → List R
replies = map (λ e. e.1)

-- the state after a list of calls, and what they answered
pub record Run (S C R : Type 0) : Type 0 where
  pub state : S
  pub log : Log C R

-- from a start state; the latest call comes first
abbrev pub after : {S C R : Type 0} → S → Program S C R → List C → Run S C R
after start step [] = record { state = start; log = [] }
after {S} {C} {R} start step (c ∷ cs) =
    let p : Run S C R = after start step cs in
    let r : R × S = step p.state c in
    record { state = r.1; log = (c, r.0) ∷ p.log }
