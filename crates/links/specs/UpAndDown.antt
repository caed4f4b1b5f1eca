-- What Up writes and Down says after any list of calls, of any link, whatever its state is (document 01, "The link", Up and Down, and the
-- visit's link "that keeps its first request: demand 2, by Up and Down").
use Rattle.std.specs.Prelude.{◌≡◌, Bool, true, false, not, ◌&&◌, cond, List, [], ◌∷◌, ℕ, eqb, leb, length}
use Rattle.definitions.specs.Outcome.{ok}
use Rattle.definitions.specs.Runs.{Program, after, replies}
use Rattle.definitions.specs.Frames.{if1, sid_type, Frame}
use Rattle.definitions.specs.Reading.{read_with}
use Rattle.recordings.specs.Conversion.{with_modes}
use Rattle.links.specs.Calls.{Forward, nothing, request, Down}
use Rattle.links.specs.History.{Call, up, down, Reply, refusal, accepted, frame, subflows, all_said, request_said}

-- ---- the last request forwarded, by what Down said

abbrev pub forwarded_then : (last now : Forward) → Forward
forwarded_then last nothing = last
forwarded_then last (request r) = request r

-- "the last request forwarded, none at first": that of the latest reply which says that one is forwarded
abbrev pub last_forwarded : List Reply → Forward
last_forwarded [] = nothing
last_forwarded (refusal n ∷ rs) = last_forwarded rs
last_forwarded (accepted ∷ rs) = last_forwarded rs
last_forwarded (frame w ∷ rs) = last_forwarded rs
last_forwarded (subflows d ∷ rs) = forwarded_then (last_forwarded rs) d.forward

abbrev pub is_last : Forward → (mode : ℕ) → Bool
is_last nothing r = false
is_last (request q) r = eqb r q

-- "For types 0 to 9 a request unlike the last forwarded one is forwarded"
abbrev pub forwarded_of : (last : Forward) → Frame → Forward
forwarded_of last x = cond (leb x.type sid_type && not (is_last last x.request)) (request x.request) nothing

-- ---- the claim, of any link

-- the octets are an IF1 frame with the request r and "indication as in conversion": its type, 0 for type 9; types 14 and 15 have 0 for both
pub record HasModes (r : ℕ) (w : List ℕ) : Type 0 where
  pub x : Frame
  pub read : read_with true if1 w ≡ ok (x, length w)
  pub modes : x ≡ with_modes r x

-- the octets are an IF1 frame, and what is said of its request follows from the last one that was forwarded
pub record SaysForwarded (last : Forward) (s : List ℕ) (said : Forward) : Type 0 where
  pub x : Frame
  pub n : ℕ
  pub read : read_with true if1 s ≡ ok (x, n)
  pub forward : said ≡ forwarded_of last x

-- from a fresh link, after any list of calls: what Up writes has the request of the last accepted rate command (0 before any), and Down
-- says that a request is forwarded, and which one, exactly where it is unlike the last one that Down said
pub record AnswersByRule {S : Type 0} (fresh : S) (step : Program S Call Reply) : Type 0 where
  pub up : (cs : List Call) (fqc rfci : ℕ) (s₁ s₂ s₃ : List ℕ) (room : ℕ) (w : List ℕ)
      → (step (after fresh step cs).state (up fqc rfci s₁ s₂ s₃ room)).0 ≡ frame w
      → HasModes (request_said (all_said (after fresh step cs).log)) w
  pub down : (cs : List Call) (s : List ℕ) (room₁ room₂ room₃ : ℕ) (d : Down)
      → (step (after fresh step cs).state (down s room₁ room₂ room₃)).0 ≡ subflows d
      → SaysForwarded (last_forwarded (replies (after fresh step cs).log)) s d.forward
