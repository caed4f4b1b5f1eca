-- Links that are not document 01's, and the claim of History.antt, UpAndDown.antt, ThereAndBack.antt or Refusals.antt that each fails. Nothing
-- of document 01 is defined here.
use Rattle.std.specs.Prelude.{true, cond, List, [], ℕ, eqb, take, drop}
use Rattle.bits.specs.Bits.{pack}
use Rattle.definitions.specs.Outcome.{Outcome, refused, ok, unless, and_then}
use Rattle.definitions.specs.Frames.{if1, speech_lost_type, Frame, frame_by, layout}
use Rattle.definitions.specs.Reading.{read_with}
use Rattle.links.specs.declared.Combination.{Combination}
use Rattle.links.specs.declared.Link.{Link}
use Rattle.links.specs.Calls.{no_request, link_by, fresh_link, has_set, in_fives, rate_call, subflows_good, up_call, Forward, nothing, Down, split, roomy, recorded, down_call, down_after}
use Rattle.links.specs.Sets.{combinations, rfc_set, by_rfci, by_type, lookup}
use Rattle.links.specs.History.{assign, release, rate, up, down, Reply, refusal, accepted, subflows, move_reply, up_reply, down_reply, LinkProgram, link_step, Remembers}
use Rattle.links.specs.UpAndDown.{AnswersByRule}
use Rattle.links.specs.ThereAndBack.{ThereAndBack}
use Rattle.links.specs.Refusals.{RefusesLink}

abbrev pub down_by : (fqc rfci : ℕ) → (s₁ s₂ s₃ : List ℕ) → Forward → Down
down_by q i s₁ s₂ s₃ f = record { fqc = q; rfci = i; flow1 = s₁; flow2 = s₂; flow3 = s₃; forward = f }

-- ---- by the state

-- one that keeps its first request above 0: Up's frames would carry it for ever
abbrev pub keeps_first : LinkProgram
keeps_first l (rate m) = cond (eqb l.request 0) (link_step l (rate m)) (move_reply (rate_call l m), l)
keeps_first l c = link_step l c

-- one that keeps the first request that it forwarded: Down would forward a later one for ever
abbrev pub keeps_forwarded : LinkProgram
keeps_forwarded l (down s m₁ m₂ m₃) =
    cond (eqb l.forwarded no_request) (link_step l (down s m₁ m₂ m₃)) (down_reply (down_call l s m₁ m₂ m₃), l)
keeps_forwarded l c = link_step l c

-- one whose Down records the request of a frame that it refuses
abbrev pub recorded_anyway : Outcome Down → Outcome (Frame × ℕ) → Link → Link
recorded_anyway (refused n) (refused m) l = l
recorded_anyway (refused n) (ok y) l = link_by l.set l.request y.0.request
recorded_anyway (ok d) y l = recorded d.forward l

abbrev pub records_refused : LinkProgram
records_refused l (down s m₁ m₂ m₃) =
    (down_reply (down_call l s m₁ m₂ m₃), recorded_anyway (down_call l s m₁ m₂ m₃) (read_with true if1 s) l)
records_refused l c = link_step l c

-- one that refuses everything
abbrev pub refuses_all : LinkProgram
refuses_all l c = (refusal 11, l)

-- ---- by what Up writes and Down says

abbrev pub silent : Outcome Down → Reply
silent (refused n) = refusal n
silent (ok d) = subflows (down_by d.fqc d.rfci d.flow1 d.flow2 d.flow3 nothing)

-- one whose Down records a request and says that none is forwarded
abbrev pub forwards_silently : LinkProgram
forwards_silently l (down s m₁ m₂ m₃) = (silent (down_call l s m₁ m₂ m₃), down_after (down_call l s m₁ m₂ m₃) l)
forwards_silently l c = link_step l c

-- ---- by what Assign, Release and Rate command do

-- one whose Assign takes rows while there is a set
abbrev pub assigns_again : LinkProgram
assigns_again l (assign ns) = link_step (link_by (rfc_set []) l.request l.forwarded) (assign ns)
assigns_again l c = link_step l c

-- one whose Assign takes any rows
abbrev pub takes_any_rows : LinkProgram
takes_any_rows l (assign ns) = (accepted, link_by (rfc_set (in_fives ns)) l.request l.forwarded)
takes_any_rows l c = link_step l c

-- one that always says that there is a set, and never assigns one
abbrev pub never_assigns : LinkProgram
never_assigns l (assign ns) = (refusal 15, l)
never_assigns l c = link_step l c

-- one that always says that there is no set, and never releases one
abbrev pub never_releases : LinkProgram
never_releases l release = (refusal 14, l)
never_releases l c = link_step l c

-- one whose Release is accepted without a set
abbrev pub releases_nothing : LinkProgram
releases_nothing l release = (accepted, link_by (rfc_set []) l.request l.forwarded)
releases_nothing l c = link_step l c

-- one that takes every mode, as 9
abbrev pub takes_any_mode : LinkProgram
takes_any_mode l (rate m) = (accepted, link_by l.set m l.forwarded)
takes_any_mode l c = link_step l c

-- ---- there and back

abbrev pub Splitting : Type 0
Splitting = Link → Combination → Frame → Down

abbrev pub down_with : Splitting → Link → List ℕ → (room₁ room₂ room₃ : ℕ) → Outcome Down
down_with splits l s m₁ m₂ m₃ =
    unless 14 (has_set l)
    (and_then (read_with true if1 s)
    (λ y.
    and_then (lookup by_type y.0.type (combinations l.set))
    (λ c. unless 10 (roomy c m₁ m₂ m₃) (ok (splits l c y.0)))))

-- one whose Down splits in another way than document 01's
abbrev pub splits_by : Splitting → LinkProgram
splits_by splits l (down s m₁ m₂ m₃) = (down_reply (down_with splits l s m₁ m₂ m₃), down_after (down_with splits l s m₁ m₂ m₃) l)
splits_by splits l c = link_step l c

-- says FQC 0 of every frame
abbrev pub always_good : Splitting
always_good l c x = let d : Down = split l c x in down_by 0 d.rfci d.flow1 d.flow2 d.flow3 d.forward

-- says FQC 1 of every frame
abbrev pub always_bad : Splitting
always_bad l c x = let d : Down = split l c x in down_by 1 d.rfci d.flow1 d.flow2 d.flow3 d.forward

-- says the type for the RFCI
abbrev pub type_for_rfci : Splitting
type_for_rfci l c x = let d : Down = split l c x in down_by d.fqc c.frame_type d.flow1 d.flow2 d.flow3 d.forward

-- says RFCI 0 of a bad frame
abbrev pub bad_without_rfci : Splitting
bad_without_rfci l c x = let d : Down = split l c x in down_by d.fqc (cond (eqb x.quality 1) d.rfci 0) d.flow1 d.flow2 d.flow3 d.forward

-- starts sub-flow 3 at size 2, as document 004 prints it
abbrev pub third_at_size_two : Splitting
third_at_size_two l c x =
    let d : Down = split l c x in
    down_by d.fqc d.rfci d.flow1 d.flow2 (pack (take c.size3 (drop c.size2 x.core))) d.forward

-- exchanges the first two sub-flows
abbrev pub first_two_exchanged : Splitting
first_two_exchanged l c x = let d : Down = split l c x in down_by d.fqc d.rfci d.flow2 d.flow1 d.flow3 d.forward

-- leaves sub-flow 2 out
abbrev pub second_left_out : Splitting
second_left_out l c x = let d : Down = split l c x in down_by d.fqc d.rfci d.flow1 [] d.flow3 d.forward

-- one whose Up refuses everything
abbrev pub never_joins : LinkProgram
never_joins l (up q i s₁ s₂ s₃ room) = (refusal 17, l)
never_joins l c = link_step l c

-- one whose Up writes request 0
abbrev pub writes_no_request : LinkProgram
writes_no_request l (up q i s₁ s₂ s₃ room) = (up_reply (up_call (link_by l.set 0 l.forwarded) q i s₁ s₂ s₃ room), l)
writes_no_request l c = link_step l c

-- ---- by what is refused, and by which number

-- one whose Assign judges the state before the rows: 15 for 11
abbrev pub state_before_rows : LinkProgram
state_before_rows l (assign ns) = cond (has_set l) (refusal 15, l) (link_step l (assign ns))
state_before_rows l c = link_step l c

-- one whose Up refuses FQC 2 as the reserved one
abbrev pub refuses_bad_radio : LinkProgram
refuses_bad_radio l (up q i s₁ s₂ s₃ room) = cond (eqb q 2) (refusal 13, l) (link_step l (up q i s₁ s₂ s₃ room))
refuses_bad_radio l c = link_step l c

-- one whose Up judges the sub-flows at every FQC, 1 included
abbrev pub always_judged : Link → (fqc rfci : ℕ) → (s₁ s₂ s₃ : List ℕ) → (room : ℕ) → Outcome (List ℕ)
always_judged l q i s₁ s₂ s₃ room =
    and_then (lookup by_rfci i (combinations l.set)) (λ c. unless 17 (subflows_good c s₁ s₂ s₃) (up_call l q i s₁ s₂ s₃ room))

abbrev pub judges_always : LinkProgram
judges_always l (up q i s₁ s₂ s₃ room) = (up_reply (and_then (up_call l q i s₁ s₂ s₃ room) (λ w. always_judged l q i s₁ s₂ s₃ room)), l)
judges_always l c = link_step l c

-- one whose Up writes a frame of type 14 for FQC 1
abbrev pub writes_lost : LinkProgram
writes_lost l (up q i s₁ s₂ s₃ room) =
    (up_reply (and_then (up_call l q i s₁ s₂ s₃ room) (λ w. ok (cond (eqb q 1) (layout if1 (frame_by speech_lost_type 0 0 0 [])) w))), l)
writes_lost l c = link_step l c

-- one whose Down judges the frame before the state: 1 for 14
abbrev pub frame_first : Link → List ℕ → (room₁ room₂ room₃ : ℕ) → Outcome Down
frame_first l s m₁ m₂ m₃ = and_then (read_with true if1 s) (λ y. down_call l s m₁ m₂ m₃)

abbrev pub frame_before_state : LinkProgram
frame_before_state l (down s m₁ m₂ m₃) = (down_reply (frame_first l s m₁ m₂ m₃), down_after (frame_first l s m₁ m₂ m₃) l)
frame_before_state l c = link_step l c

-- ---- the claim

-- each of them, and the claim that it fails
pub record WrongLinks : Type 0 where
  pub first_kept : Remembers fresh_link keeps_first → ⊥
  pub first_written : AnswersByRule fresh_link keeps_first → ⊥
  pub forwarded_kept : Remembers fresh_link keeps_forwarded → ⊥
  pub forwarded_said_again : AnswersByRule fresh_link keeps_forwarded → ⊥
  pub forwarded_unsaid : AnswersByRule fresh_link forwards_silently → ⊥
  pub refused_recorded : Remembers fresh_link records_refused → ⊥
  pub all_refused : Remembers fresh_link refuses_all → ⊥
  pub assigned_again : Remembers fresh_link assigns_again → ⊥
  pub any_rows_taken : Remembers fresh_link takes_any_rows → ⊥
  pub never_assigned : Remembers fresh_link never_assigns → ⊥
  pub never_released : Remembers fresh_link never_releases → ⊥
  pub nothing_released : Remembers fresh_link releases_nothing → ⊥
  pub any_mode_taken : Remembers fresh_link takes_any_mode → ⊥
  pub bad_said_good : ThereAndBack (splits_by always_good) → ⊥
  pub good_said_bad : ThereAndBack (splits_by always_bad) → ⊥
  pub type_said : ThereAndBack (splits_by type_for_rfci) → ⊥
  pub rfci_unsaid : ThereAndBack (splits_by bad_without_rfci) → ⊥
  pub third_moved : ThereAndBack (splits_by third_at_size_two) → ⊥
  pub first_two_moved : ThereAndBack (splits_by first_two_exchanged) → ⊥
  pub second_missing : ThereAndBack (splits_by second_left_out) → ⊥
  pub never_joined : ThereAndBack never_joins → ⊥
  pub request_unwritten : ThereAndBack writes_no_request → ⊥
  pub rows_judged_late : RefusesLink state_before_rows → ⊥
  pub bad_radio_refused : RefusesLink refuses_bad_radio → ⊥
  pub unread_judged : RefusesLink judges_always → ⊥
  pub lost_written : RefusesLink writes_lost → ⊥
  pub set_judged_late : RefusesLink frame_before_state → ⊥
