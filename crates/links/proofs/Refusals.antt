-- Each call is a chain of tests, by what its look-up finds, and each test fails exactly on its number's condition: so the call is refused by the
-- first number whose condition holds. Assumes nothing.
use mathlib.Core.Path.{◌≡◌, refl, sym, ap, ◌∙◌, subst}
use mathlib.Core.Bool.{Bool, true, false, not, ◌&&◌, ◌||◌, cond, true≢false}
use mathlib.Core.List.{List, [], ◌∷◌, ◌++◌, Memᴰ}
use mathlib.Core.Logic.{◌⊎◌, inl, inr, ⊎_elim, ◌↔◌}
use Prim.Native.Nat.{ℕ, ◌-◌, ◌*◌, ◌%◌, ◌≤◌, ◌<◌}
use native.Mathlib.Omega.{arith}
use lib.Dec.{eqb, leb}
use lib.ListN.{length}
use borrow.Author.Tests.{not-false, leb-true, leb-false, lt-leb, eqb-true, eqb-false, eq-eqb, ne_eqb}
use Rattle.bits.specs.Bits.{num, bits, octets_for, Octets}
use Rattle.std.proofs.lemmas.Bool.{and_from, and_cases, or_left, false_from_ne_true}
use Rattle.bits.proofs.Tests.{and_left, and_right}
use Rattle.definitions.specs.Outcome.{Outcome, refused, ok, unless}
use Rattle.definitions.specs.Frames.{if1, Frame, octets, type_in, frame_in, fields_good, layout}
use Rattle.definitions.specs.Reading.{read_with}
use Rattle.definitions.specs.Refusals.{refusal_order, FirstOf, FieldFault, type_of, FrameFault}
use Rattle.definitions.proofs.Outcome.{judge, Decides, Fails, also, same_number, no_refusal, refuses-first, both, judge-then}
use Rattle.definitions.proofs.Refusals.{one-from, none-from, fields-fail, tests, tests-decide, of_frame, frame-only}
use Rattle.links.specs.declared.Combination.{Combination}
use Rattle.links.specs.declared.Link.{Link}
use Rattle.links.specs.Sets.{combination, combination_good, set_good, combinations, rfc_set, Key, by_rfci, by_type, has, lookup}
use Rattle.links.specs.Calls.{link_by, has_set, in_fives, assign_call, release_call, rate_call, subflow_good, subflows_good, up_frame, no_data_bad, up_call, Down, split, roomy, down_frame, down_call}
use Rattle.links.specs.History.{refusal, frame, move_reply, up_reply, down_reply, link_step}
use Rattle.links.specs.Refusals.{link_order, AssignFault, ReleaseFault, RateFault, SubflowFault, UpFault, DownFault, RefusesLink}
use Rattle.links.proofs.SetLaws.{lookup-found}
use Rattle.links.proofs.CallLaws.{up-bad}

-- ---- replies

move-refused : (o : Outcome Link) (n : ℕ) → (move_reply o ≡ refusal n) ↔ (o ≡ refused n)
move-refused (refused m) n = ((λ e. let z : m ≡ n = cc in ap refused z), (λ e. ap refusal (same_number m n e)))
move-refused (ok l) n = ((λ e. absurd (let z : ◌≡◌ {A = ℕ} 0 1 = cc in omega arith)), (λ e. no_refusal l n e))

up-refused : (o : Outcome (List ℕ)) (n : ℕ) → (up_reply o ≡ refusal n) ↔ (o ≡ refused n)
up-refused (refused m) n = ((λ e. let z : m ≡ n = cc in ap refused z), (λ e. ap refusal (same_number m n e)))
up-refused (ok w) n = ((λ e. absurd (let z : ◌≡◌ {A = ℕ} 0 1 = cc in omega arith)), (λ e. no_refusal w n e))

down-refused : (o : Outcome Down) (n : ℕ) → (down_reply o ≡ refusal n) ↔ (o ≡ refused n)
down-refused (refused m) n = ((λ e. let z : m ≡ n = cc in ap refused z), (λ e. ap refusal (same_number m n e)))
down-refused (ok d) n = ((λ e. absurd (let z : ◌≡◌ {A = ℕ} 0 1 = cc in omega arith)), (λ e. no_refusal d n e))

-- an answer that is not refused is the one that it must be
unrefused : (o : Outcome (List ℕ)) (v : List ℕ) → ((w : List ℕ) → o ≡ ok w → v ≡ w) → ((n : ℕ) → up_reply o ≡ refusal n → ⊥) → up_reply o ≡ frame v
unrefused (refused n) v f z = absurd (z n refl)
unrefused (ok w) v f z = ap frame (sym (f w refl))

-- a call that is a chain
by_chain : {A : Type 0} (o p : Outcome A) (n : ℕ) (F : Type 0) → o ≡ p → (p ≡ refused n) ↔ F → (o ≡ refused n) ↔ F
by_chain o p n F e q = ((λ h. q.0 (sym e ∙ h)), (λ x. e ∙ q.1 x))

-- ---- Assign, Release, Rate command

module _ (l : Link) (ns : List ℕ) where
  abbrev rows_good : Bool
  rows_good = eqb (length ns % 5) 0 && set_good (in_fives ns)

  rows-fail : Fails (AssignFault l ns) (11, rows_good)
  rows-fail = (fails, λ x. false_from_ne_true _ (passes x))
    where
      fails : rows_good ≡ false → AssignFault l ns 11
      fails h = ⊎_elim (λ e. AssignFault.not_fives (eqb-false _ _ e)) (λ e. AssignFault.another_set e) (and_cases _ _ h)

      passes : AssignFault l ns 11 → rows_good ≡ true → ⊥
      passes (AssignFault.not_fives z) h = z (eqb-true _ _ (and_left _ _ h))
      passes (AssignFault.another_set e) h = true≢false (sym (and_right (eqb (length ns % 5) 0) _ h) ∙ e)

  with_set-fails : Fails (AssignFault l ns) (15, not (has_set l))
  with_set-fails = ((λ h. AssignFault.with_set (not-false _ h)), back)
    where
      back : AssignFault l ns 15 → not (has_set l) ≡ false
      back (AssignFault.with_set e) = ap not e

  abbrev of_assign : ℕ → Bool
  of_assign n = eqb n 11 || eqb n 15

  assign-only : (n : ℕ) → AssignFault l ns n → of_assign n ≡ true
  assign-only n (AssignFault.not_fives z) = refl
  assign-only n (AssignFault.another_set e) = refl
  assign-only n (AssignFault.with_set e) = refl

  assign-first : (n : ℕ) → (assign_call l ns ≡ refused n) ↔ FirstOf (AssignFault l ns) link_order n
  unfolding assign_call
  assign-first n =
      let fault = AssignFault l ns in
      refuses-first fault of_assign assign-only link_order ((11, rows_good) ∷ (15, not (has_set l)) ∷ [])
      (link_by (rfc_set (in_fives ns)) l.request l.forwarded) n refl (also fault _ _ rows-fail (also fault _ _ with_set-fails Decides.none))

module _ (l : Link) where
  no_set-fails : Fails (ReleaseFault l) (14, has_set l)
  no_set-fails = ((λ h. ReleaseFault.no_set h), back)
    where
      back : ReleaseFault l 14 → has_set l ≡ false
      back (ReleaseFault.no_set e) = e

  release-only : (n : ℕ) → ReleaseFault l n → eqb n 14 ≡ true
  release-only n (ReleaseFault.no_set e) = refl

  release-first : (n : ℕ) → (release_call l ≡ refused n) ↔ FirstOf (ReleaseFault l) link_order n
  unfolding release_call
  release-first n =
      let fault = ReleaseFault l in
      refuses-first fault (λ n. eqb n 14) release-only link_order ((14, has_set l) ∷ []) (link_by (rfc_set []) l.request l.forwarded) n refl
      (also fault _ _ no_set-fails Decides.none)

  module _ (mode : ℕ) where
    mode-fails : Fails (RateFault mode) (11, leb mode 8)
    mode-fails = ((λ h. RateFault.mode_above (leb-false mode 8 h)), back)
      where
        back : RateFault mode 11 → leb mode 8 ≡ false
        back (RateFault.mode_above a) = lt-leb mode 8 a

    rate-only : (n : ℕ) → RateFault mode n → eqb n 11 ≡ true
    rate-only n (RateFault.mode_above a) = refl

    rate-first : (n : ℕ) → (rate_call l mode ≡ refused n) ↔ FirstOf (RateFault mode) link_order n
    unfolding rate_call
    rate-first n =
        let fault = RateFault mode in
        refuses-first fault (λ n. eqb n 11) rate-only link_order ((11, leb mode 8) ∷ []) (link_by l.set mode l.forwarded) n refl
        (also fault _ _ mode-fails Decides.none)

-- ---- look-ups

-- 16 and no other number
lookup-refused : (k : Key) (n : ℕ) (cs : List Combination) (m : ℕ) → lookup k n cs ≡ refused m → lookup k n cs ≡ refused 16
lookup-refused k n [] m e = refl
lookup-refused k n (c ∷ cs) m e = go (has k n c && combination_good c) e (lookup-refused k n cs m)
  where
    go : (b : Bool) → cond b (ok c) (lookup k n cs) ≡ refused m → (lookup k n cs ≡ refused m → lookup k n cs ≡ refused 16)
        → cond b (ok c) (lookup k n cs) ≡ refused 16
    go true e later = no_refusal c m e
    go false e later = later e

-- where it is refused, no good combination has what is looked up
lookup-none : (k : Key) (n : ℕ) (c : Combination) {cs : List Combination} (m : ℕ) → lookup k n cs ≡ refused m → Memᴰ c cs → combination_good c ≡ true
    → has k n c ≡ true → ⊥
lookup-none k n c m r (Memᴰ.head {x = x} {xs = cs} e) g h =
    let t = and_from (has k n x) (combination_good x) (ap (has k n) (sym e) ∙ h) (ap combination_good (sym e) ∙ g) in
    no_refusal x m (sym (ap (λ b. cond b (ok x) (lookup k n cs)) t) ∙ r)
lookup-none k n c m r (Memᴰ.tail {x = x} {xs = cs} i) g h =
    go (has k n x && combination_good x) r (λ r. lookup-none k n c m r i g h)
  where
    go : (b : Bool) → cond b (ok x) (lookup k n cs) ≡ refused m → (lookup k n cs ≡ refused m → ⊥) → ⊥
    go true r later = no_refusal x m r
    go false r later = later r

-- ---- Up

subflow-fails : (size : ℕ) (s : List ℕ) → (subflow_good size s ≡ false) ↔ SubflowFault size s
subflow-fails size s = (fails, λ x. false_from_ne_true _ (passes x))
  where
    fails : subflow_good size s ≡ false → SubflowFault size s
    fails h =
        ⊎_elim (λ e. SubflowFault.another_length (eqb-false _ _ e))
        (λ e.
        let z = one-from size (8 * length s - size) (bits s) e in
        SubflowFault.filling_bit z.0 z.1 (omega (arith, z.1, z.2)) z.3) (and_cases _ _ h)

    passes : SubflowFault size s → subflow_good size s ≡ true → ⊥
    passes (SubflowFault.another_length z) h = z (eqb-true _ _ (and_left _ _ h))
    passes (SubflowFault.filling_bit i a b o) h =
        none-from size (8 * length s - size) (bits s) i (and_right (eqb (length s) (octets_for size)) _ h) a (omega (arith, a, b)) o

-- one of three tests fails
three-fail : {A B C : Type 0} (a b c : Bool) → (a ≡ false) ↔ A → (b ≡ false) ↔ B → (c ≡ false) ↔ C → ((a && (b && c)) ≡ false) ↔ (A ⊎ (B ⊎ C))
three-fail {A} {B} {C} a b c p q r = (fails, λ x. false_from_ne_true _ (passes x))
  where
    fails : (a && (b && c)) ≡ false → A ⊎ (B ⊎ C)
    fails h = ⊎_elim (λ e. inl (p.0 e)) (λ h. inr (⊎_elim (λ e. inl (q.0 e)) (λ e. inr (r.0 e)) (and_cases b c h))) (and_cases a _ h)

    passes : A ⊎ (B ⊎ C) → (a && (b && c)) ≡ true → ⊥
    passes (inl x) h = true≢false (sym (and_left a _ h) ∙ p.1 x)
    passes (inr (inl y)) h = true≢false (sym (and_left b c (and_right a _ h)) ∙ q.1 y)
    passes (inr (inr z)) h = true≢false (sym (and_right b c (and_right a _ h)) ∙ r.1 z)

module _ (l : Link) (fqc rfci : ℕ) (s₁ s₂ s₃ : List ℕ) (room : ℕ) where
  abbrev fault : ℕ → Type 0
  fault = UpFault l fqc rfci s₁ s₂ s₃ room

  abbrev found : Outcome Combination
  found = lookup by_rfci rfci (combinations l.set)

  abbrev answer : Outcome (List ℕ)
  answer = up_call l fqc rfci s₁ s₂ s₃ room

  abbrev of_up : ℕ → Bool
  of_up n = eqb n 11 || (eqb n 14 || (eqb n 13 || (eqb n 16 || (eqb n 17 || (eqb n 6 || eqb n 10)))))

  up-only : (n : ℕ) → fault n → of_up n ≡ true
  up-only n (UpFault.fqc_above a) = refl
  up-only n (UpFault.rfci_above a) = refl
  up-only n (UpFault.no_set e) = refl
  up-only n (UpFault.fqc_reserved e) = refl
  up-only n (UpFault.rfci_not_in_set e) = refl
  up-only n (UpFault.subflow c f z x) = refl
  up-only n (UpFault.field c f z x) = refl
  up-only n (UpFault.too_little_room c f z x) = refl
  up-only n (UpFault.no_room_for_no_data e x) = refl

  numbers-fail : Fails fault (11, leb fqc 3 && leb rfci 63)
  numbers-fail = (fails, λ x. false_from_ne_true _ (passes x))
    where
      fails : (leb fqc 3 && leb rfci 63) ≡ false → fault 11
      fails h = ⊎_elim (λ e. UpFault.fqc_above (leb-false fqc 3 e)) (λ e. UpFault.rfci_above (leb-false rfci 63 e)) (and_cases _ _ h)

      passes : fault 11 → (leb fqc 3 && leb rfci 63) ≡ true → ⊥
      passes (UpFault.fqc_above a) h = omega (arith, a, leb-true fqc 3 (and_left _ _ h))
      passes (UpFault.rfci_above a) h = omega (arith, a, leb-true rfci 63 (and_right (leb fqc 3) _ h))

  set-fails : Fails fault (14, has_set l)
  set-fails = ((λ h. UpFault.no_set h), back)
    where
      back : fault 14 → has_set l ≡ false
      back (UpFault.no_set e) = e

  reserved-fails : leb fqc 3 ≡ true → Fails fault (13, leb fqc 2)
  reserved-fails h = ((λ e. UpFault.fqc_reserved (omega (arith, leb-true fqc 3 h, leb-false fqc 2 e))), back)
    where
      back : fault 13 → leb fqc 2 ≡ false
      back (UpFault.fqc_reserved e) = lt-leb fqc 2 (omega (arith, e))

  abbrev up_tests : List (ℕ × Bool) → List (ℕ × Bool)
  up_tests ts = (11, leb fqc 3 && leb rfci 63) ∷ (14, has_set l) ∷ (13, leb fqc 2) ∷ ts

  front-decides : (ts : List (ℕ × Bool)) → Decides fault ts → Decides fault (up_tests ts)
  front-decides ts d = Decides.test numbers-fail (λ h. also fault _ _ set-fails (also fault _ _ (reserved-fails (and_left _ _ h)) d))

  up-first : (t₁ t₂ t₃ t₄ : Bool) (w : List ℕ) (n : ℕ)
      → Decides fault ((16, t₁) ∷ (17, t₂) ∷ (6, t₃) ∷ (10, t₄) ∷ [])
      → answer ≡ judge (up_tests ((16, t₁) ∷ (17, t₂) ∷ (6, t₃) ∷ (10, t₄) ∷ [])) w → (answer ≡ refused n) ↔ FirstOf fault link_order n
  up-first t₁ t₂ t₃ t₄ w n d e =
      let ts = up_tests ((16, t₁) ∷ (17, t₂) ∷ (6, t₃) ∷ (10, t₄) ∷ []) in
      by_chain answer (judge ts w) n _ e (refuses-first fault of_up up-only link_order ts w n refl (front-decides _ d))

  -- the RFCI is not in the set
  up-unfound : (n : ℕ) → found ≡ refused 16 → (answer ≡ refused n) ↔ FirstOf fault link_order n
  unfolding up_call
  up-unfound n f =
      up-first false true true true [] n
      (Decides.test ((λ h. UpFault.rfci_not_in_set (λ c i g k. lookup-none by_rfci rfci c 16 f i g k)), (λ x. refl)) (λ h. absurd (true≢false (sym h)))) (rw f)

  module _ (c : Combination) (f : found ≡ ok c) where
    row-fails : Fails fault (16, true)
    row-fails = ((λ h. absurd (true≢false h)), back)
      where
        back : fault 16 → true ≡ false
        back (UpFault.rfci_not_in_set e) =
            let u = lookup-found by_rfci rfci (combinations l.set) c f in
            absurd (e c u.member u.good u.named)

    -- FQC 1: the sub-flows are not judged
    module _ (q : fqc ≡ 1) where
      unjudged : Fails fault (17, true)
      unjudged = ((λ h. absurd (true≢false h)), back)
        where
          back : fault 17 → true ≡ false
          back (UpFault.subflow d e z x) = absurd (z q)

      no_data-fields : Fails fault (6, fields_good if1 no_data_bad)
      unfolding num fields_good
      no_data-fields = ((λ h. absurd (true≢false h)), back)
        where
          back : fault 6 → fields_good if1 no_data_bad ≡ false
          back (UpFault.field d e z x) = absurd (z q)

      no_data-room : Fails fault (10, leb (octets if1 15) room)
      no_data-room = ((λ h. UpFault.no_room_for_no_data q (leb-false _ _ h)), back)
        where
          back : fault 10 → leb (octets if1 15) room ≡ false
          back (UpFault.too_little_room d e z x) = absurd (z q)
          back (UpFault.no_room_for_no_data e x) = lt-leb _ _ x

      up-no_data : (n : ℕ) → (answer ≡ refused n) ↔ FirstOf fault link_order n
      unfolding up_call
      up-no_data n =
          up-first true true (fields_good if1 no_data_bad) (leb (octets if1 15) room) (layout if1 no_data_bad) n
          (also fault _ _ row-fails (also fault _ _ unjudged (also fault _ _ no_data-fields (also fault _ _ no_data-room Decides.none))))
          (rw (f, eq-eqb fqc 1 q))

    module _ (z : fqc ≡ 1 → ⊥) where
      abbrev x : Frame
      x = up_frame l.request fqc c s₁ s₂ s₃

      same_row : (d : Combination) → found ≡ ok d → d ≡ c
      same_row d e = let o : ok d ≡ ok c = sym e ∙ f in cc

      subflows-fail : (subflows_good c s₁ s₂ s₃ ≡ false) ↔ (SubflowFault c.size1 s₁ ⊎ (SubflowFault c.size2 s₂ ⊎ SubflowFault c.size3 s₃))
      subflows-fail =
          three-fail (subflow_good c.size1 s₁) (subflow_good c.size2 s₂) (subflow_good c.size3 s₃) (subflow-fails c.size1 s₁)
          (subflow-fails c.size2 s₂) (subflow-fails c.size3 s₃)

      judged : Fails fault (17, subflows_good c s₁ s₂ s₃)
      judged = ((λ h. UpFault.subflow c f z (subflows-fail.0 h)), back)
        where
          back : fault 17 → subflows_good c s₁ s₂ s₃ ≡ false
          back (UpFault.subflow d e z x) =
              subflows-fail.1 (subst (λ (c : Combination). SubflowFault c.size1 s₁ ⊎ (SubflowFault c.size2 s₂ ⊎ SubflowFault c.size3 s₃))
              (same_row d e) x)

      fields-tested : Fails fault (6, fields_good if1 x)
      fields-tested = ((λ h. UpFault.field c f z ((fields-fail if1 x).0 h)), back)
        where
          back : fault 6 → fields_good if1 x ≡ false
          back (UpFault.field d e z y) =
              (fields-fail if1 x).1 (subst (λ c. FieldFault if1 (up_frame l.request fqc c s₁ s₂ s₃)) (same_row d e) y)

      room-tested : Fails fault (10, leb (octets if1 c.frame_type) room)
      room-tested = ((λ h. UpFault.too_little_room c f z (leb-false _ _ h)), back)
        where
          back : fault 10 → leb (octets if1 c.frame_type) room ≡ false
          back (UpFault.too_little_room d e z y) = lt-leb _ _ (subst (λ (c : Combination). room < octets if1 c.frame_type) (same_row d e) y)
          back (UpFault.no_room_for_no_data e y) = absurd (z e)

      up-joined : (n : ℕ) → (answer ≡ refused n) ↔ FirstOf fault link_order n
      unfolding up_call
      up-joined n =
          up-first true (subflows_good c s₁ s₂ s₃) (fields_good if1 x) (leb (octets if1 c.frame_type) room) (layout if1 x) n
          (also fault _ _ row-fails (also fault _ _ judged (also fault _ _ fields-tested (also fault _ _ room-tested Decides.none))))
          (rw (f, ne_eqb fqc 1 z))

  up-exactly : (n : ℕ) → (answer ≡ refused n) ↔ FirstOf fault link_order n
  up-exactly n = go found refl (eqb fqc 1) refl
    where
      go : (o : Outcome Combination) → found ≡ o → (b : Bool) → eqb fqc 1 ≡ b → (answer ≡ refused n) ↔ FirstOf fault link_order n
      go (refused m) f b e = up-unfound n (lookup-refused by_rfci rfci (combinations l.set) m f)
      go (ok c) f true e = up-no_data c f (eqb-true fqc 1 e) n
      go (ok c) f false e = up-joined c f (eqb-false fqc 1 e) n

-- ---- Down

module _ (l : Link) (s : List ℕ) (m₁ m₂ m₃ : ℕ) where
  abbrev down_fault : ℕ → Type 0
  down_fault = DownFault l s m₁ m₂ m₃

  abbrev down_found : Outcome Combination
  down_found = lookup by_type (type_of if1 s) (combinations l.set)

  abbrev down_answer : Outcome Down
  down_answer = down_call l s m₁ m₂ m₃

  abbrev of_down : ℕ → Bool
  of_down n = of_frame n || (eqb n 14 || (eqb n 16 || eqb n 10))

  down-only : (n : ℕ) → down_fault n → of_down n ≡ true
  down-only n (DownFault.no_set e) = refl
  down-only n (DownFault.in_frame x) = or_left _ _ (frame-only true if1 s n x)
  down-only n (DownFault.type_not_in_set e) = refl
  down-only n (DownFault.too_little_room c e x) = refl

  down-frame : (n : ℕ) → n ≤ 7 → down_fault n → FrameFault true if1 s n
  down-frame n m (DownFault.no_set e) = absurd (omega (arith, m))
  down-frame n m (DownFault.in_frame x) = x
  down-frame n m (DownFault.type_not_in_set e) = absurd (omega (arith, m))
  down-frame n m (DownFault.too_little_room c e x) = absurd (omega (arith, m))

  down_set-fails : Fails down_fault (14, has_set l)
  down_set-fails = ((λ h. DownFault.no_set h), back)
    where
      back : down_fault 14 → has_set l ≡ false
      back (DownFault.no_set e) = e
      back (DownFault.in_frame x) = elim x [ ]

  down-first : (t₁ t₂ : Bool) (d : Down) (n : ℕ) → Octets s → Decides down_fault ((16, t₁) ∷ (10, t₂) ∷ [])
      → down_frame l (frame_in if1 (bits s)) m₁ m₂ m₃ ≡ judge ((16, t₁) ∷ (10, t₂) ∷ []) d
      → (down_answer ≡ refused n) ↔ FirstOf down_fault refusal_order n
  unfolding down_call read_with
  down-first t₁ t₂ d n o ds e =
      let ts = (14, has_set l) ∷ (tests true if1 s ++ ((16, t₁) ∷ (10, t₂) ∷ [])) in
      by_chain down_answer (judge ts d) n _
      (ap (unless 14 (has_set l))
      (judge-then (tests true if1 s) ((16, t₁) ∷ (10, t₂) ∷ []) (frame_in if1 (bits s), octets if1 (type_in if1 (bits s))) d
      (λ y. down_frame l y.0 m₁ m₂ m₃) e))
      (refuses-first down_fault of_down down-only refusal_order ts d n refl
      (also down_fault _ _ down_set-fails
      (tests-decide true if1 s o down_fault (λ n k m. ((λ x. down-frame n m x), (λ x. DownFault.in_frame x))) _ ds)))

  -- the type is not in the set
  down-unfound : (n : ℕ) → Octets s → down_found ≡ refused 16 → (down_answer ≡ refused n) ↔ FirstOf down_fault refusal_order n
  unfolding frame_in
  down-unfound n o f =
      down-first false true (split l (combination 0 0 0 0 0) (frame_in if1 (bits s))) n o
      (Decides.test ((λ h. DownFault.type_not_in_set (λ c i g k. lookup-none by_type (type_of if1 s) c 16 f i g k)), (λ x. refl)) (λ h. absurd (true≢false (sym h)))) (rw f)

  module _ (c : Combination) (f : down_found ≡ ok c) where
    type-fails : Fails down_fault (16, true)
    type-fails = ((λ h. absurd (true≢false h)), back)
      where
        back : down_fault 16 → true ≡ false
        back (DownFault.in_frame x) = elim x [ ]
        back (DownFault.type_not_in_set e) =
            let u = lookup-found by_type (type_of if1 s) (combinations l.set) c f in
            absurd (e c u.member u.good u.named)

    room-fails : (size room : ℕ) → (leb (octets_for size) room ≡ false) ↔ (room < octets_for size)
    room-fails size room = ((λ h. leb-false _ _ h), (λ x. lt-leb _ _ x))

    roomy-fails : (roomy c m₁ m₂ m₃ ≡ false) ↔ ((m₁ < octets_for c.size1) ⊎ ((m₂ < octets_for c.size2) ⊎ (m₃ < octets_for c.size3)))
    roomy-fails =
        three-fail (leb (octets_for c.size1) m₁) (leb (octets_for c.size2) m₂) (leb (octets_for c.size3) m₃) (room-fails c.size1 m₁)
        (room-fails c.size2 m₂) (room-fails c.size3 m₃)

    roomy-tested : Fails down_fault (10, roomy c m₁ m₂ m₃)
    roomy-tested = ((λ h. DownFault.too_little_room c f (roomy-fails.0 h)), back)
      where
        back : down_fault 10 → roomy c m₁ m₂ m₃ ≡ false
        back (DownFault.in_frame x) = elim x [ ]
        back (DownFault.too_little_room d e x) =
            let same : d ≡ c = let o : ok d ≡ ok c = sym e ∙ f in cc in
            roomy-fails.1 (subst
            (λ (c : Combination). (m₁ < octets_for c.size1) ⊎ ((m₂ < octets_for c.size2) ⊎ (m₃ < octets_for c.size3))) same x)

    down-split : (n : ℕ) → Octets s → (down_answer ≡ refused n) ↔ FirstOf down_fault refusal_order n
    unfolding frame_in
    down-split n o =
        down-first true (roomy c m₁ m₂ m₃) (split l c (frame_in if1 (bits s))) n o
        (also down_fault _ _ type-fails (also down_fault _ _ roomy-tested Decides.none)) (rw f)

  down-exactly : (n : ℕ) → Octets s → (down_answer ≡ refused n) ↔ FirstOf down_fault refusal_order n
  down-exactly n o = go down_found refl
    where
      go : (p : Outcome Combination) → down_found ≡ p → (down_answer ≡ refused n) ↔ FirstOf down_fault refusal_order n
      go (refused m) f = down-unfound n o (lookup-refused by_type (type_of if1 s) (combinations l.set) m f)
      go (ok c) f = down-split c f n o

pub refuses_link : RefusesLink link_step
refuses_link = record {
  assigns = λ l ns n. both (move-refused (assign_call l ns) n) (assign-first l ns n);
  releases = λ l n. both (move-refused (release_call l) n) (release-first l n);
  commands = λ l mode n. both (move-refused (rate_call l mode) n) (rate-first l mode n);
  joins = λ l q i s₁ s₂ s₃ room n. both (up-refused (up_call l q i s₁ s₂ s₃ room) n) (up-exactly l q i s₁ s₂ s₃ room n);
  splits = λ l s m₁ m₂ m₃ n o. both (down-refused (down_call l s m₁ m₂ m₃) n) (down-exactly l s m₁ m₂ m₃ n o);
  no_data = λ l i s₁ s₂ s₃ room. unrefused (up_call l 1 i s₁ s₂ s₃ room) (layout if1 no_data_bad) (λ w h. up-bad l i s₁ s₂ s₃ room w h);
}
