-- The wrong links do not meet the claims: each is tried on one list of calls, or one call. Assumes nothing.
use mathlib.Core.Path.{◌≡◌, refl, sym, ap, ◌∙◌, subst}
use mathlib.Core.Logic.{◌≢◌}
use mathlib.Core.Bool.{true, cond}
use mathlib.Core.List.{List, [], ◌∷◌, ◌++◌, Memᴰ}
use Prim.Native.Nat.{ℕ, ◌≤◌}
use native.Mathlib.Nat.{le_refl}
use native.Mathlib.Omega.{arith}
use lib.Dec.{leb}
use lib.ListN.{length, get_or, take, drop, replicate}
use Rattle.bits.specs.Bits.{odd, digits, num, bits, packs, pack, Octets}
use Rattle.bits.proofs.BitLaws.{pack_octets}
use Rattle.std.proofs.lemmas.Bool.{and_from}
use Rattle.definitions.specs.Outcome.{ok}
use Rattle.definitions.specs.Runs.{after}
use Rattle.definitions.specs.Frames.{if1, Frame, frame_by, known, core_bits, octets, header, fields_good, layout}
use Rattle.definitions.specs.Reading.{read_with}
use Rattle.definitions.specs.Claims.{Valid}
use Rattle.definitions.specs.Refusals.{refusal_order, FirstOf}
use Rattle.definitions.specs.Cases.{sid_update_frame}
use Rattle.definitions.proofs.Outcome.{same_number, refuses-head, first-holds}
use Rattle.recordings.specs.Conversion.{with_modes}
use Rattle.links.specs.declared.Combination.{Combination}
use Rattle.links.specs.declared.Link.{Link}
use Rattle.links.specs.Sets.{combination, combination_good, set_good, rfc_set}
use Rattle.links.specs.Calls.{link_by, fresh_link, assign_call, rate_call, no_data_bad, up_call, nothing, request, split, down_call}
use Rattle.links.specs.History.{Call, assign, rate, up, down, frame, subflows, up_reply, down_reply, LinkProgram, RightLink, Remembers}
use Rattle.links.specs.UpAndDown.{AnswersByRule}
use Rattle.links.specs.ThereAndBack.{JoinedAgain, SplitAgain, ThereAndBack}
use Rattle.links.specs.Refusals.{link_order, AssignFault, UpFault, DownFault, RefusesLink}
use Rattle.links.specs.WrongLinks.{keeps_first, keeps_forwarded, records_refused, refuses_all, silent, forwards_silently, assigns_again, takes_any_rows, never_assigns, never_releases, releases_nothing, takes_any_mode, Splitting, down_with, splits_by, always_good, always_bad, type_for_rfci, bad_without_rfci, third_at_size_two, first_two_exchanged, second_left_out, never_joins, writes_no_request, state_before_rows, refuses_bad_radio, judges_always, writes_lost, frame_before_state, WrongLinks}
use Rattle.links.proofs.CallLaws.{subflows-replied, read-laid, down_takes, up_makes}

-- 3 is stored, and 5 was said last
first_kept : Remembers fresh_link keeps_first → ⊥
unfolding rate_call
first_kept r =
    let e : ◌≡◌ {A = ℕ} 3 5 = ap (λ (l : Link). l.request) (r.state (rate 5 ∷ rate 3 ∷ [])) in
    omega arith

-- a SID frame with a request
abbrev sid : ℕ → Frame
sid r = frame_by 9 1 0 r sid_update_frame.core

sid-valid : (r : ℕ) → leb r 8 ≡ true → Valid if1 (sid r)
unfolding odd digits num known core_bits fields_good
sid-valid r h = record { type_known = refl; quality_bit = le_refl 1; core_length = refl; fields_are_good = and_from _ _ h refl }

-- a combination for SID frames, and a link that has it
abbrev of_sid : Combination
of_sid = combination 1 9 40 0 0

abbrev sid_rows : List ℕ
sid_rows = 1 ∷ 9 ∷ 40 ∷ 0 ∷ 0 ∷ []

abbrev sid_link : (forwarded : ℕ) → Link
sid_link f = link_by (rfc_set (of_sid ∷ [])) 0 f

sid_taken : (f r : ℕ) → leb r 8 ≡ true → down_call (sid_link f) (layout if1 (sid r)) 5 0 0 ≡ ok (split (sid_link f) of_sid (sid r))
unfolding combination_good core_bits
sid_taken f r h = down_takes (sid_link f) (layout if1 (sid r)) 5 0 0 (sid r) _ of_sid refl (read-laid (sid r) (sid-valid r h)) refl refl

-- 2 is kept, and 3 came last
forwarded_kept : Remembers fresh_link keeps_forwarded → ⊥
unfolding assign_call set_good combination_good core_bits
forwarded_kept r =
    let calls : List Call = down (layout if1 (sid 3)) 5 0 0 ∷ down (layout if1 (sid 2)) 5 0 0 ∷ assign sid_rows ∷ [] in
    let e : ◌≡◌ {A = ℕ} 2 3 =
    rw (sid_taken 15 2 refl, sid_taken 2 3 refl, read-laid (sid 3) (sid-valid 3 refl)) at (ap (λ (l : Link). l.forwarded) (r.state calls)) in
    omega arith

-- 14, as there is no set, and the request is recorded
refused_recorded : Remembers fresh_link records_refused → ⊥
unfolding down_call
refused_recorded r =
    let kept = r.kept fresh_link (down (layout if1 (sid 2)) 0 0 0) 14 refl in
    let e : ◌≡◌ {A = ℕ} 2 15 = rw (read-laid (sid 2) (sid-valid 2 refl)) at (ap (λ (l : Link). l.forwarded) kept) in
    omega arith

-- a command for mode 0 is refused
all_refused : Remembers fresh_link refuses_all → ⊥
all_refused r =
    let e = (r.commands fresh_link 0).1 (omega arith) in
    let z : ◌≡◌ {A = ℕ} 0 1 = cc in
    omega arith

-- ---- by what Up writes and Down says

-- the frame that octets are read as is one
read_once : (s : List ℕ) (x y : Frame) (m n : ℕ) → read_with true if1 s ≡ ok (x, m) → read_with true if1 s ≡ ok (y, n) → x ≡ y
read_once s x y m n e f =
    let p : (x, m) ≡ (y, n) = let o : ok (x, m) ≡ ok (y, n) = sym e ∙ f in cc in
    ap (λ (p : Frame × ℕ). p.0) p

-- 3 is written, and 5 was said last
first_written : AnswersByRule fresh_link keeps_first → ⊥
unfolding odd digits num bits assign_call rate_call set_good combination_good core_bits octets fields_good
first_written r =
    let calls : List Call = rate 5 ∷ rate 3 ∷ assign sid_rows ∷ [] in
    let s : List ℕ = 0 ∷ 0 ∷ 0 ∷ 0 ∷ 19 ∷ [] in
    let h = r.up calls 0 1 s [] [] 8 (layout if1 (sid 3))
    (ap up_reply (up_makes (link_by (rfc_set (of_sid ∷ [])) 3 15) 1 s [] [] 8 of_sid (sid 3) refl refl refl refl refl refl (omega arith))) in
    let x : h.x ≡ sid 3 = read_once (layout if1 (sid 3)) h.x (sid 3) _ _ h.read (read-laid (sid 3) (sid-valid 3 refl)) in
    let e : ◌≡◌ {A = ℕ} 3 5 = ap (λ (x : Frame). x.request) (subst (λ x. x ≡ with_modes 5 x) x h.modes) in
    omega arith

-- 3 was said last, and is said again
forwarded_said_again : AnswersByRule fresh_link keeps_forwarded → ⊥
unfolding assign_call set_good combination_good core_bits
forwarded_said_again r =
    let w : List ℕ = layout if1 (sid 3) in
    let calls : List Call = down w 5 0 0 ∷ down (layout if1 (sid 2)) 5 0 0 ∷ assign sid_rows ∷ [] in
    let p : (keeps_forwarded (after fresh_link keeps_forwarded calls).state (down w 5 0 0)).0 ≡ subflows (split (sid_link 2) of_sid (sid 3)) =
    rw (sid_taken 15 2 refl, sid_taken 2 3 refl) in
    let h = r.down calls w 5 0 0 (split (sid_link 2) of_sid (sid 3)) p in
    let x : h.x ≡ sid 3 = read_once w h.x (sid 3) _ _ h.read (read-laid (sid 3) (sid-valid 3 refl)) in
    let e : request 3 ≡ nothing = rw (sid_taken 15 2 refl, sid_taken 2 3 refl, x) at h.forward in
    let z : ◌≡◌ {A = ℕ} 0 1 = cc in
    omega arith

-- 2 is forwarded, and none is said to be
forwarded_unsaid : AnswersByRule fresh_link forwards_silently → ⊥
unfolding assign_call set_good combination_good core_bits
forwarded_unsaid r =
    let w : List ℕ = layout if1 (sid 2) in
    let h = r.down (assign sid_rows ∷ []) w 5 0 0 _ (ap silent (sid_taken 15 2 refl)) in
    let x : h.x ≡ sid 2 = read_once w h.x (sid 2) _ _ h.read (read-laid (sid 2) (sid-valid 2 refl)) in
    let e : nothing ≡ request 2 = rw x at h.forward in
    let z : ◌≡◌ {A = ℕ} 0 1 = cc in
    omega arith

-- ---- by what Assign, Release and Rate command do

-- there is a set
assigned_again : Remembers fresh_link assigns_again → ⊥
unfolding assign_call set_good combination_good core_bits
assigned_again r =
    let e = ((r.assigns (sid_link 15) sid_rows).0 refl).2 in
    let z : ◌≡◌ {A = ℕ} 0 1 = ap (λ b. cond b 0 1) e in
    omega arith

-- twelve rows
any_rows_taken : Remembers fresh_link takes_any_rows → ⊥
any_rows_taken r =
    let e : 12 ≤ 11 = (r.right (assign (replicate 60 0) ∷ [])).few in
    omega (arith, e)

-- there is none
never_assigned : Remembers fresh_link never_assigns → ⊥
unfolding set_good combination_good core_bits
never_assigned r =
    let e = (r.assigns fresh_link sid_rows).1 (refl, refl, refl) in
    let z : ◌≡◌ {A = ℕ} 0 1 = cc in
    omega arith

-- there is a set
never_released : Remembers fresh_link never_releases → ⊥
never_released r =
    let e = (r.releases (sid_link 15)).1 refl in
    let z : ◌≡◌ {A = ℕ} 0 1 = cc in
    omega arith

-- there is none
nothing_released : Remembers fresh_link releases_nothing → ⊥
nothing_released r =
    let z : ◌≡◌ {A = ℕ} 0 1 = ap (λ b. cond b 1 0) ((r.releases fresh_link).0 refl) in
    omega arith

any_mode_taken : Remembers fresh_link takes_any_mode → ⊥
any_mode_taken r =
    let e : 9 ≤ 8 = (r.commands fresh_link 9).0 refl in
    omega (arith, e)

-- ---- there and back

-- a combination for SID frames with three sub-flows, and a link that has it
abbrev in_parts : Combination
in_parts = combination 1 9 8 24 8

abbrev parts_link : Link
parts_link = link_by (rfc_set (in_parts ∷ [])) 3 15

parts-right : RightLink parts_link
unfolding combination_good core_bits
parts-right = record { few = omega arith; good = refl; mode = omega arith }

parts_taken : (splits : Splitting) (x : Frame) → Valid if1 x → x.type ≡ 9
    → down_with splits parts_link (layout if1 x) 1 3 1 ≡ ok (splits parts_link in_parts x)
unfolding combination_good core_bits
parts_taken splits x v t = rw (read-laid x v, t)

-- what a link's Up answers to what its Down splits
joined_again : (step : LinkProgram) (splits : Splitting) → ThereAndBack step
    → ((s : List ℕ) (m₁ m₂ m₃ : ℕ) → (step parts_link (down s m₁ m₂ m₃)).0 ≡ down_reply (down_with splits parts_link s m₁ m₂ m₃))
    → let d = splits parts_link in_parts (sid 3) in
    JoinedAgain parts_link (sid 3) in_parts d (step parts_link (up 0 d.rfci d.flow1 d.flow2 d.flow3 8)).0
unfolding layout octets combination_good core_bits
joined_again step splits r by =
    let v = sid-valid 3 refl in
    let w = layout if1 (sid 3) in
    let h = r.down_up parts_link w (sid 3) _ in_parts 1 3 1 8 parts-right (pack_octets (header if1 (sid 3) ++ (sid 3).core))
    (read-laid (sid 3) v) refl (Memᴰ.head refl) refl refl (omega arith) in
    let e : ok (splits parts_link in_parts (sid 3)) ≡ ok h.0 =
    sym (parts_taken splits (sid 3) v refl) ∙ subflows-replied (down_with splits parts_link w 1 3 1) h.0 (sym (by w 1 3 1) ∙ h.1) in
    let same : splits parts_link in_parts (sid 3) ≡ h.0 = cc in
    subst (λ d. JoinedAgain parts_link (sid 3) in_parts d (step parts_link (up 0 d.rfci d.flow1 d.flow2 d.flow3 8)).0) (sym same) h.2

sid_joined : (splits : Splitting) → ThereAndBack (splits_by splits)
    → let d = splits parts_link in_parts (sid 3) in
    JoinedAgain parts_link (sid 3) in_parts d (splits_by splits parts_link (up 0 d.rfci d.flow1 d.flow2 d.flow3 8)).0
sid_joined splits r = joined_again (splits_by splits) splits r (λ s m₁ m₂ m₃. refl)

-- the three sub-flows of a SID frame
abbrev flow : (at size : ℕ) → List ℕ
flow m n = pack (take n (drop m sid_update_frame.core))

-- how what Up made of them is split
split_again : (splits : Splitting) (q : ℕ) (x : Frame) → q ≢ 1 → Valid if1 x → x.type ≡ 9
    → up_call parts_link q 1 (flow 0 8) (flow 8 24) (flow 32 8) 8 ≡ ok (layout if1 x) → ThereAndBack (splits_by splits)
    → SplitAgain q 1 (flow 0 8) (flow 8 24) (flow 32 8) (splits parts_link in_parts x)
unfolding digits packs pack
split_again splits q x n v t u r =
    let o : (m k : ℕ) → Octets (flow m k) = λ m k. pack_octets (take k (drop m sid_update_frame.core)) in
    let h = r.up_down parts_link q 1 (flow 0 8) (flow 8 24) (flow 32 8) 8 (layout if1 x) 1 3 1 parts-right (o 0 8) (o 8 24) (o 32 8) n (ap up_reply u)
    (le_refl 1) (le_refl 3) (le_refl 1) in
    let e : ok (splits parts_link in_parts x) ≡ ok h.0 =
    sym (parts_taken splits x v t) ∙ subflows-replied (down_with splits parts_link (layout if1 x) 1 3 1) h.0 h.1 in
    let same : splits parts_link in_parts x ≡ h.0 = cc in
    subst (SplitAgain q 1 (flow 0 8) (flow 8 24) (flow 32 8)) (sym same) h.2

sid_split : (splits : Splitting) → ThereAndBack (splits_by splits)
    → SplitAgain 0 1 (flow 0 8) (flow 8 24) (flow 32 8) (splits parts_link in_parts (sid 3))
unfolding up_call odd digits num bits packs pack combination_good core_bits octets fields_good
sid_split splits r = split_again splits 0 (sid 3) (λ e. omega (arith, e)) (sid-valid 3 refl) refl refl r

-- a SID frame of quality 0
abbrev bad_sid : Frame
bad_sid = frame_by 9 0 0 3 sid_update_frame.core

bad_sid-valid : Valid if1 bad_sid
unfolding odd digits num known core_bits fields_good
bad_sid-valid = record { type_known = refl; quality_bit = omega arith; core_length = refl; fields_are_good = refl }

bad_split : (splits : Splitting) → ThereAndBack (splits_by splits)
    → SplitAgain 2 1 (flow 0 8) (flow 8 24) (flow 32 8) (splits parts_link in_parts bad_sid)
unfolding up_call odd digits num bits packs pack combination_good core_bits octets fields_good
bad_split splits r = split_again splits 2 bad_sid (λ e. omega (arith, e)) bad_sid-valid refl refl r

-- octet 3 of the core is 0, octet 4 is 19
third_moved : ThereAndBack (splits_by third_at_size_two) → ⊥
unfolding odd digits num packs pack
third_moved r =
    let e : ◌≡◌ {A = ℕ} 0 19 = ap (λ s. get_or s 0 0) (sid_split third_at_size_two r).flow3 in
    omega arith

-- one octet, and three
first_two_moved : ThereAndBack (splits_by first_two_exchanged) → ⊥
unfolding packs pack
first_two_moved r =
    let e : ◌≡◌ {A = ℕ} 3 1 = ap length (sid_split first_two_exchanged r).flow1 in
    omega arith

-- no octets, and three
second_missing : ThereAndBack (splits_by second_left_out) → ⊥
unfolding packs pack
second_missing r =
    let e : ◌≡◌ {A = ℕ} 0 3 = ap length (sid_split second_left_out r).flow2 in
    omega arith

-- what Down split is refused
never_joined : ThereAndBack never_joins → ⊥
unfolding down_call
never_joined r =
    let e = (joined_again never_joins split r (λ s m₁ m₂ m₃. refl)).joined in
    let z : ◌≡◌ {A = ℕ} 0 1 = cc in
    omega arith

-- the frame has request 0 where 3 is stored
request_unwritten : ThereAndBack writes_no_request → ⊥
unfolding up_call down_call odd digits num bits packs pack combination_good core_bits octets fields_good
request_unwritten r =
    let h : frame (layout if1 (sid 0)) ≡ frame (layout if1 (sid 3)) = (joined_again writes_no_request split r (λ s m₁ m₂ m₃. refl)).joined in
    let w : layout if1 (sid 0) ≡ layout if1 (sid 3) = cc in
    let x = read_once (layout if1 (sid 0)) (sid 0) (sid 3) _ _ (read-laid (sid 0) (sid-valid 0 refl))
    (ap (read_with true if1) w ∙ read-laid (sid 3) (sid-valid 3 refl)) in
    let e : ◌≡◌ {A = ℕ} 0 3 = ap (λ (x : Frame). x.request) x in
    omega arith

-- ---- by what is refused, and by which number

-- there is a set, and one number is no row
rows_judged_late : RefusesLink state_before_rows → ⊥
rows_judged_late r =
    let rows : List ℕ = 0 ∷ [] in
    let x = (r.assigns (sid_link 15) rows 15).0 refl in
    let bad : AssignFault (sid_link 15) rows 11 = AssignFault.not_fives (λ e. omega (arith, e)) in
    let e : ◌≡◌ {A = ℕ} 11 15 = same_number 11 15 ((refuses-head {A = ℕ} (AssignFault (sid_link 15) rows) 11 _ 15 bad).1 x) in
    omega (arith, e)

-- 13 is for FQC 3
bad_radio_refused : RefusesLink refuses_bad_radio → ⊥
bad_radio_refused r = reserved (first-holds (UpFault (sid_link 15) 2 1 [] [] [] 8) link_order 13 ((r.joins (sid_link 15) 2 1 [] [] [] 8 13).0 refl))
  where
    reserved : UpFault (sid_link 15) 2 1 [] [] [] 8 13 → ⊥
    reserved (UpFault.fqc_reserved e) = omega (arith, e)

-- three sub-flows without octets
unread_judged : RefusesLink judges_always → ⊥
unfolding up_call num combination_good core_bits octets fields_good
unread_judged r = judged (first-holds (UpFault (sid_link 15) 1 1 [] [] [] 8) link_order 17 ((r.joins (sid_link 15) 1 1 [] [] [] 8 17).0 refl))
  where
    judged : UpFault (sid_link 15) 1 1 [] [] [] 8 17 → ⊥
    judged (UpFault.subflow c f z x) = z refl

-- 0xE0 and 0xF0 are other octets
lost_written : RefusesLink writes_lost → ⊥
unfolding up_call odd digits num packs pack header layout combination_good core_bits octets fields_good
lost_written r =
    let lost : List ℕ = layout if1 (frame_by 14 0 0 0 []) in
    let h : frame lost ≡ frame (layout if1 no_data_bad) =
    r.no_data (sid_link 15) 1 [] [] [] 8 (λ n e. absurd (let z : ◌≡◌ {A = ℕ} 0 1 = cc in omega arith)) in
    let w : lost ≡ layout if1 no_data_bad = cc in
    let e : ◌≡◌ {A = ℕ} 224 240 = ap (λ s. get_or s 0 0) w in
    omega (arith, e)

-- there is no set, and there are no octets
set_judged_late : RefusesLink frame_before_state → ⊥
unfolding read_with
set_judged_late r = late ((r.splits fresh_link [] 0 0 0 1 (λ i. omega arith)).0 refl)
  where
    late : FirstOf (DownFault fresh_link [] 0 0 0) refusal_order 1 → ⊥
    late (FirstOf.later z (FirstOf.later y x)) = y (DownFault.no_set refl)

pub wrong_links : WrongLinks
wrong_links = record {
  first_kept = first_kept;
  first_written = first_written;
  forwarded_kept = forwarded_kept;
  forwarded_said_again = forwarded_said_again;
  forwarded_unsaid = forwarded_unsaid;
  refused_recorded = refused_recorded;
  all_refused = all_refused;
  assigned_again = assigned_again;
  any_rows_taken = any_rows_taken;
  never_assigned = never_assigned;
  never_released = never_released;
  nothing_released = nothing_released;
  any_mode_taken = any_mode_taken;
  bad_said_good = λ r. let e : ◌≡◌ {A = ℕ} 0 1 = (bad_split always_good r).fqc in omega arith;
  good_said_bad = λ r. let e : ◌≡◌ {A = ℕ} 1 0 = (sid_joined always_bad r).good in omega arith;
  type_said = λ r. let e : ◌≡◌ {A = ℕ} 9 1 = (sid_joined type_for_rfci r).rfci in omega arith;
  rfci_unsaid = λ r. let e : ◌≡◌ {A = ℕ} 0 1 = (bad_split bad_without_rfci r).rfci in omega arith;
  third_moved = third_moved;
  first_two_moved = first_two_moved;
  second_missing = second_missing;
  never_joined = never_joined;
  request_unwritten = request_unwritten;
  rows_judged_late = rows_judged_late;
  bad_radio_refused = bad_radio_refused;
  unread_judged = unread_judged;
  lost_written = lost_written;
  set_judged_late = set_judged_late;
}
