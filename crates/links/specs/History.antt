-- What a link keeps over any list of calls (document 01, "The link").
use Rattle.std.specs.Prelude.{◌≡◌, true, false, cond, ◌↔◌, List, [], ◌∷◌, map, ℕ, ◌%◌, ◌≤◌, leb, length}
use Rattle.definitions.specs.Outcome.{Outcome, refused, ok}
use Rattle.definitions.specs.Runs.{Program, Log, after}
use Rattle.definitions.specs.Frames.{if1, highest_mode, sid_type, Frame}
use Rattle.definitions.specs.Reading.{read_with}
use Rattle.links.specs.declared.Combination.{Combination}
use Rattle.links.specs.declared.Link.{Link}
use Rattle.links.specs.Sets.{all_good, most_combinations, set_good, combinations, rfc_set}
use Rattle.links.specs.Calls.{no_request, link_by, has_set, in_fives, assign_call, release_call, rate_call, link_after, up_call, Down, down_call, down_after}

pub data Call : Type 0 where
  assign : List ℕ → Call
  release : Call
  rate : ℕ → Call
  up : (fqc rfci : ℕ) → (s₁ s₂ s₃ : List ℕ) → (room : ℕ) → Call
  down : List ℕ → (room₁ room₂ room₃ : ℕ) → Call

-- what a call answers: refused by a number, accepted, an IF1 frame, or sub-flows
pub data Reply : Type 0 where
  refusal : ℕ → Reply
  accepted : Reply
  frame : List ℕ → Reply
  subflows : Down → Reply

abbrev pub move_reply : Outcome Link → Reply
move_reply (refused n) = refusal n
move_reply (ok l) = accepted

abbrev pub up_reply : Outcome (List ℕ) → Reply
up_reply (refused n) = refusal n
up_reply (ok w) = frame w

abbrev pub down_reply : Outcome Down → Reply
down_reply (refused n) = refusal n
down_reply (ok d) = subflows d

-- a link: what a call answers in a state, and the state after it
abbrev pub LinkProgram : Type 0
LinkProgram = Program Link Call Reply

-- the link of document 01; in Up "state unchanged"
abbrev pub link_step : LinkProgram
link_step l (assign ns) = (move_reply (assign_call l ns), link_after (assign_call l ns) l)
link_step l release = (move_reply (release_call l), link_after (release_call l) l)
link_step l (rate m) = (move_reply (rate_call l m), link_after (rate_call l m) l)
link_step l (up q i s₁ s₂ s₃ room) = (up_reply (up_call l q i s₁ s₂ s₃ room), l)
link_step l (down s m₁ m₂ m₃) = (down_reply (down_call l s m₁ m₂ m₃), down_after (down_call l s m₁ m₂ m₃) l)

-- ---- what accepted calls say

pub data Said : Type 0 where
  assigned : List Combination → Said
  released : Said
  commanded : ℕ → Said
  received : (type request : ℕ) → Said
  unsaid : Said

-- of a frame that Down took
abbrev pub said_by : Outcome (Frame × ℕ) → Said
said_by (refused n) = unsaid
said_by (ok y) = received y.0.type y.0.request

abbrev pub said_in : Call → Said
said_in (assign ns) = assigned (in_fives ns)
said_in release = released
said_in (rate m) = commanded m
said_in (up q i s₁ s₂ s₃ room) = unsaid
said_in (down s m₁ m₂ m₃) = said_by (read_with true if1 s)

-- a refused call says nothing
abbrev pub said : Call → Reply → Said
said c (refusal n) = unsaid
said c accepted = said_in c
said c (frame w) = said_in c
said c (subflows d) = said_in c

abbrev pub all_said : Log Call Reply → List Said
all_said = map (λ e. said e.0 e.1)

-- the set: that of the last accepted Assign, none after an accepted Release or before any
abbrev pub set_said : List Said → List Combination
set_said [] = []
set_said (assigned cs ∷ es) = cs
set_said (released ∷ es) = []
set_said (commanded m ∷ es) = set_said es
set_said (received t r ∷ es) = set_said es
set_said (unsaid ∷ es) = set_said es

-- the stored request: that of the last accepted Rate command, 0 before any
abbrev pub request_said : List Said → ℕ
request_said [] = 0
request_said (assigned cs ∷ es) = request_said es
request_said (released ∷ es) = request_said es
request_said (commanded m ∷ es) = m
request_said (received t r ∷ es) = request_said es
request_said (unsaid ∷ es) = request_said es

-- the last request forwarded: that of the last accepted Down of types 0 to 9, none before any
abbrev pub forwarded_said : List Said → ℕ
forwarded_said [] = no_request
forwarded_said (assigned cs ∷ es) = forwarded_said es
forwarded_said (released ∷ es) = forwarded_said es
forwarded_said (commanded m ∷ es) = forwarded_said es
forwarded_said (received t r ∷ es) = cond (leb t sid_type) r (forwarded_said es)
forwarded_said (unsaid ∷ es) = forwarded_said es

abbrev pub link_said : List Said → Link
link_said es = link_by (rfc_set (set_said es)) (request_said es) (forwarded_said es)

-- ---- the claim, of any link

-- at most 11 combinations, which are good and differ in RFCI and type, and a request that is a mode
pub record RightLink (l : Link) : Type 0 where
  pub few : l.set.count ≤ most_combinations
  pub good : all_good (combinations l.set) ≡ true
  pub mode : l.request ≤ highest_mode

pub record Remembers (fresh : Link) (step : LinkProgram) : Type 0 where
  -- from a fresh link, after any list of calls, the state is what the accepted ones said, and it is right
  pub state : (cs : List Call) → (after fresh step cs).state ≡ link_said (all_said (after fresh step cs).log)
  pub right : (cs : List Call) → RightLink (after fresh step cs).state
  -- in any state whatever: a refused call leaves it, and these calls are accepted exactly where no refusal has its reason
  pub kept : (l : Link) (c : Call) (n : ℕ) → (step l c).0 ≡ refusal n → (step l c).1 ≡ l
  pub assigns : (l : Link) (ns : List ℕ)
      → ((step l (assign ns)).0 ≡ accepted) ↔ ((length ns % 5 ≡ 0) × (set_good (in_fives ns) ≡ true) × (has_set l ≡ false))
  pub releases : (l : Link) → ((step l release).0 ≡ accepted) ↔ (has_set l ≡ true)
  pub commands : (l : Link) (m : ℕ) → ((step l (rate m)).0 ≡ accepted) ↔ (m ≤ highest_mode)
