-- Each call leaves the state as what the accepted calls said, and the last request forwarded as what Down said: by induction over the calls,
-- with each call's accepted case. What Up writes and Down says of a state is then by what was said. Assumes nothing.
use mathlib.Core.Path.{◌≡◌, refl, sym, ap, ◌∙◌, subst}
use mathlib.Core.Logic.{◌↔◌}
use mathlib.Core.Bool.{Bool, true, false, not, ◌&&◌, cond}
use mathlib.Core.List.{List, [], ◌∷◌}
use Prim.Native.Nat.{ℕ, ◌%◌, ◌≤◌}
use native.Mathlib.Omega.{arith}
use lib.Dec.{eqb, leb}
use lib.ListN.{length}
use lib.Seq.{take_at}
use borrow.Author.Tests.{eqb-true, ne_eqb}
use Rattle.definitions.specs.Outcome.{Outcome, refused, ok}
use Rattle.definitions.specs.Runs.{Log, after, replies}
use Rattle.definitions.proofs.Runs.{after-keeps}
use Rattle.definitions.specs.Frames.{if1}
use Rattle.definitions.specs.Reading.{read_with}
use Rattle.recordings.specs.Conversion.{with_modes}
use Rattle.links.specs.declared.Combination.{Combination}
use Rattle.links.specs.declared.Link.{Link}
use Rattle.links.specs.Sets.{all_good, most_combinations, set_good, rfc_set}
use Rattle.links.specs.Calls.{no_request, link_by, fresh_link, has_set, in_fives, assign_call, release_call, rate_call, link_after, up_call, Down, down_call, down_after, Forward, nothing, request, recorded}
use Rattle.links.specs.History.{Call, assign, release, rate, up, down, refusal, accepted, Reply, move_reply, up_reply, down_reply, link_step, Said, said_by, all_said, set_said, request_said, forwarded_said, RightLink, Remembers}
use Rattle.links.specs.UpAndDown.{forwarded_then, last_forwarded, is_last, AnswersByRule}
use Rattle.links.proofs.SetLaws.{set-good}
use Rattle.links.proofs.CallLaws.{move_accepted, frame-replied, subflows-replied, assign_takes, assign-ok, release_takes, release-ok, rate_takes, rate-ok, read-laid, read-request, down-ok, up-written}

-- the number in the state of the last request forwarded
abbrev forwarded_number : Forward → ℕ
forwarded_number nothing = no_request
forwarded_number (request r) = r

-- a state with the set of these combinations and these two requests, all right, and the last request that was said to be forwarded
record Holds (l : Link) (cs : List Combination) (r f : ℕ) (last : Forward) : Type 0 where
  state : l ≡ link_by (rfc_set cs) r f
  few : length cs ≤ most_combinations
  good : all_good cs ≡ true
  mode : r ≤ 8
  forwarded : f ≡ forwarded_number last

-- a state that is what was said
abbrev Kept : Link → Log Call Reply → Type 0
Kept l es = Holds l (set_said (all_said es)) (request_said (all_said es)) (forwarded_said (all_said es)) (last_forwarded (replies es))

-- ---- the calls, each in its accepted case

move_kept : (l : Link) (es : Log Call Reply) (c : Call) (o : Outcome Link) → Kept l es → ((m : Link) → o ≡ ok m → Kept m ((c, accepted) ∷ es))
    → Kept (link_after o l) ((c, move_reply o) ∷ es)
move_kept l es c (refused n) k h = k
move_kept l es c (ok m) k h = h m refl

assign-kept : (l : Link) (es : Log Call Reply) (ns : List ℕ) → Kept l es → (m : Link) → assign_call l ns ≡ ok m
    → Kept m ((assign ns, accepted) ∷ es)
assign-kept l es ns k m e =
    let a = assign-ok l ns m e in
    let g = set-good (in_fives ns) a.good in
    record {
      state = sym a.next ∙ ap (λ l. link_by (rfc_set (in_fives ns)) l.request l.forwarded) k.state;
      few = g.0;
      good = g.1;
      mode = k.mode;
      forwarded = k.forwarded;
    }

release-kept : (l : Link) (es : Log Call Reply) → Kept l es → (m : Link) → release_call l ≡ ok m → Kept m ((release, accepted) ∷ es)
release-kept l es k m e = record {
  state = sym (release-ok l m e).1 ∙ ap (λ l. link_by (rfc_set []) l.request l.forwarded) k.state;
  few = omega arith;
  good = refl;
  mode = k.mode;
  forwarded = k.forwarded;
}

rate-kept : (l : Link) (es : Log Call Reply) (r : ℕ) → Kept l es → (m : Link) → rate_call l r ≡ ok m → Kept m ((rate r, accepted) ∷ es)
rate-kept l es r k m e =
    let a = rate-ok l r m e in
    record {
      state = sym a.1 ∙ ap (λ l. link_by l.set r l.forwarded) k.state;
      few = k.few;
      good = k.good;
      mode = a.0;
      forwarded = k.forwarded;
    }

up_kept : (l : Link) (es : Log Call Reply) (q i : ℕ) (s₁ s₂ s₃ : List ℕ) (room : ℕ) (o : Outcome (List ℕ)) → Kept l es
    → Kept l ((up q i s₁ s₂ s₃ room, up_reply o) ∷ es)
up_kept l es q i s₁ s₂ s₃ room (refused n) k = k
up_kept l es q i s₁ s₂ s₃ room (ok w) k = k

-- a request is recorded, or was the last one already
next_forwarded : (b e : Bool) (l : Link) (r : ℕ) → (e ≡ true → r ≡ l.forwarded)
    → recorded (cond (b && not e) (request r) nothing) l ≡ link_by l.set l.request (cond b r l.forwarded)
next_forwarded true true l r h = ap (link_by l.set l.request) (sym (h refl))
next_forwarded true false l r h = refl
next_forwarded false e l r h = refl

-- and it is said to be forwarded, or was said last
next_said : (b e : Bool) (f r : ℕ) (last : Forward) → (e ≡ true → r ≡ f) → f ≡ forwarded_number last
    → cond b r f ≡ forwarded_number (forwarded_then last (cond (b && not e) (request r) nothing))
next_said true true f r last h k = h refl ∙ k
next_said true false f r last h k = refl
next_said false e f r last h k = k

down-kept : (l : Link) (es : Log Call Reply) (s : List ℕ) (m₁ m₂ m₃ : ℕ) (o : Outcome Down) → down_call l s m₁ m₂ m₃ ≡ o → Kept l es
    → Kept (down_after o l) ((down s m₁ m₂ m₃, down_reply o) ∷ es)
down-kept l es s m₁ m₂ m₃ (refused n) e k = k
down-kept l es s m₁ m₂ m₃ (ok d) e k =
    let t = down-ok l s m₁ m₂ m₃ d e in
    let x = t.y.0 in
    let same : l.forwarded ≡ forwarded_said (all_said es) = ap (λ (l : Link). l.forwarded) k.state in
    let next : recorded d.forward l ≡ link_by l.set l.request (cond (leb t.y.0.type 9) t.y.0.request l.forwarded) =
    ap (λ (d : Down). recorded d.forward l) (sym t.answer)
    ∙ next_forwarded (leb x.type 9) (eqb x.request l.forwarded) l x.request (eqb-true _ _) in
    let last : Forward → Forward = forwarded_then (last_forwarded (replies es)) in
    let said : cond (leb t.y.0.type 9) t.y.0.request (forwarded_said (all_said es)) ≡ forwarded_number (last d.forward) =
    next_said (leb x.type 9) (eqb x.request l.forwarded) _ x.request (last_forwarded (replies es)) (λ h. eqb-true _ _ h ∙ same) k.forwarded
    ∙ ap (λ (d : Down). forwarded_number (last d.forward)) t.answer in
    let r : List Said → Type 0 = λ us. Holds (recorded d.forward l) (set_said us) (request_said us) (forwarded_said us) (last d.forward) in
    subst (λ o. r (said_by o ∷ all_said es)) (sym t.read) (record {
      state = next ∙ ap (λ l. link_by l.set l.request (cond (leb x.type 9) x.request l.forwarded)) k.state;
      few = k.few;
      good = k.good;
      mode = k.mode;
      forwarded = said;
    })

step_kept : (l : Link) (es : Log Call Reply) (c : Call) → Kept l es → Kept (link_step l c).1 ((c, (link_step l c).0) ∷ es)
step_kept l es (assign ns) k = move_kept l es (assign ns) (assign_call l ns) k (assign-kept l es ns k)
step_kept l es release k = move_kept l es release (release_call l) k (release-kept l es k)
step_kept l es (rate m) k = move_kept l es (rate m) (rate_call l m) k (rate-kept l es m k)
step_kept l es (up q i s₁ s₂ s₃ room) k = up_kept l es q i s₁ s₂ s₃ room (up_call l q i s₁ s₂ s₃ room) k
step_kept l es (down s m₁ m₂ m₃) k = down-kept l es s m₁ m₂ m₃ (down_call l s m₁ m₂ m₃) refl k

after_kept : (cs : List Call) → Kept (after fresh_link link_step cs).state (after fresh_link link_step cs).log
after_kept = after-keeps fresh_link link_step (λ cs l es. Kept l es)
    (record { state = refl; few = omega arith; good = refl; mode = omega arith; forwarded = refl })
    (λ cs l es c k. step_kept l es c k)

holds_right : {l : Link} {cs : List Combination} {r f : ℕ} {last : Forward} → Holds l cs r f last → RightLink l
holds_right {cs = cs} k =
    subst RightLink (sym k.state) (record { few = k.few; good = ap all_good (take_at cs _ (length cs) refl) ∙ k.good; mode = k.mode })

-- ---- a refused call

move_refused : (l : Link) (n : ℕ) (o : Outcome Link) → move_reply o ≡ refusal n → link_after o l ≡ l
move_refused l n (refused m) e = refl
move_refused l n (ok m) e = absurd (let z : ◌≡◌ {A = ℕ} 0 1 = cc in omega arith)

down-refused : (l : Link) (n : ℕ) (o : Outcome Down) → down_reply o ≡ refusal n → down_after o l ≡ l
down-refused l n (refused m) e = refl
down-refused l n (ok d) e = absurd (let z : ◌≡◌ {A = ℕ} 0 1 = cc in omega arith)

step_refused : (l : Link) (c : Call) (n : ℕ) → (link_step l c).0 ≡ refusal n → (link_step l c).1 ≡ l
step_refused l (assign ns) n e = move_refused l n (assign_call l ns) e
step_refused l release n e = move_refused l n (release_call l) e
step_refused l (rate m) n e = move_refused l n (rate_call l m) e
step_refused l (up q i s₁ s₂ s₃ room) n e = refl
step_refused l (down s m₁ m₂ m₃) n e = down-refused l n (down_call l s m₁ m₂ m₃) e

-- ---- an accepted call

assign_exactly : (l : Link) (ns : List ℕ)
    → (move_reply (assign_call l ns) ≡ accepted) ↔ ((length ns % 5 ≡ 0) × (set_good (in_fives ns) ≡ true) × (has_set l ≡ false))
assign_exactly l ns = (
  λ e. let m = move_accepted (assign_call l ns) e in let a = assign-ok l ns m.0 m.1 in (a.fives, a.good, a.none),
  λ h. ap move_reply (assign_takes l ns h.0 h.1 h.2),
)

release_exactly : (l : Link) → (move_reply (release_call l) ≡ accepted) ↔ (has_set l ≡ true)
release_exactly l = (λ e. let m = move_accepted (release_call l) e in (release-ok l m.0 m.1).0, λ h. ap move_reply (release_takes l h))

rate_exactly : (l : Link) (r : ℕ) → (move_reply (rate_call l r) ≡ accepted) ↔ (r ≤ 8)
rate_exactly l r = (λ e. let m = move_accepted (rate_call l r) e in (rate-ok l r m.0 m.1).0, λ h. ap move_reply (rate_takes l r h))

pub remembers : Remembers fresh_link link_step
remembers = record {
  state = λ cs. (after_kept cs).state;
  right = λ cs. holds_right (after_kept cs);
  kept = step_refused;
  assigns = assign_exactly;
  releases = release_exactly;
  commands = rate_exactly;
}

-- ---- Up and Down

-- no frame's request is the number for none
is_last_number : (r : ℕ) (last : Forward) → r ≤ 8 → eqb r (forwarded_number last) ≡ is_last last r
is_last_number r nothing h = ne_eqb r no_request (λ e. omega (arith, e, h))
is_last_number r (request q) h = refl

pub answers_by_rule : AnswersByRule fresh_link link_step
answers_by_rule = record {
  up = λ cs q i s₁ s₂ s₃ room w e.
      let k = after_kept cs in
      let l = (after fresh_link link_step cs).state in
      let m = up-written l i s₁ s₂ s₃ room q w (frame-replied (up_call l q i s₁ s₂ s₃ room) w e) in
      record {
        x = m.x;
        read = subst (λ w. read_with true if1 w ≡ ok (m.x, length w)) m.answer (read-laid m.x m.valid);
        modes = m.modes ∙ ap (λ (l : Link). with_modes l.request m.x) k.state;
      };
  down = λ cs s m₁ m₂ m₃ d e.
      let k = after_kept cs in
      let l = (after fresh_link link_step cs).state in
      let last = last_forwarded (replies (after fresh_link link_step cs).log) in
      let t = down-ok l s m₁ m₂ m₃ d (subflows-replied (down_call l s m₁ m₂ m₃) d e) in
      let x = t.y.0 in
      let same : l.forwarded ≡ forwarded_number last = ap (λ (l : Link). l.forwarded) k.state ∙ k.forwarded in
      record {
        x = x;
        n = t.y.1;
        read = t.read;
        forward = ap (λ (d : Down). d.forward) (sym t.answer)
            ∙ ap (λ b. cond (leb x.type 9 && not b) (request x.request) nothing)
            (ap (eqb x.request) same ∙ is_last_number x.request last (read-request s t.y t.read));
      };
}
