-- A valid frame is carried to a valid frame of each format, with its type, quality and core, so it comes back as it was exactly where its
-- modes are those that the way back writes. Assumes nothing.
use mathlib.Core.Path.{◌≡◌, refl, sym, ap, ap₂, ◌∙◌}
use mathlib.Core.Logic.{◌↔◌, ◌≢◌}
use mathlib.Core.Bool.{Bool, true, false, not, ◌&&◌, ◌||◌, cond, or-true}
use mathlib.Core.List.{List, [], ◌∷◌, map}
use Prim.Native.Nat.{ℕ, ◌≤◌}
use native.Mathlib.Omega.{arith}
use lib.Dec.{eqb, leb}
use lib.ListN.{length, drop, length-append}
use borrow.Author.Tests.{leb-true, leb-false, le-leb, eqb-true, eq-eqb}
use Rattle.bits.specs.Bits.{num}
use Rattle.std.proofs.lemmas.Bool.{and_from}
use Rattle.bits.proofs.Tests.{and_left, and_right, given}
use Rattle.definitions.specs.Frames.{Format, if1, if2, storage, Frame, frame_by, octets, carries_modes, layout, sid_good, uncarried_zero, fields_good}
use Rattle.definitions.specs.Claims.{Valid}
use Rattle.definitions.proofs.Frames.{frame_path, fields_are_good, length-layout}
use Rattle.recordings.specs.Recordings.{layouts}
use Rattle.recordings.specs.Conversion.{with_modes, without_modes, carried}
use Rattle.recordings.specs.Claims.{Every, none, first}
use Rattle.recordings.specs.Demand3.{Kept, Returns}

-- ---- valid again

-- the SID rule of a valid frame
sid-good : (f : Format) (x : Frame) → Valid f x → sid_good x.type x.indication (num 4 (drop 36 x.core)) ≡ true
unfolding fields_good
sid-good f x v = and_left _ _ (and_right (leb x.request 8) _ (and_right (leb x.indication 8) _ v.fields_are_good))

-- a condition's first demand, exchanged for another
exchanged : (b p q m : Bool) → (b ≡ true → q ≡ true) → (not b || (p && m)) ≡ true → (not b || (q && m)) ≡ true
exchanged true p q m z h = and_from q m (z refl) (and_right p m h)
exchanged false p q m z h = refl

-- a valid frame with other modes
modes_valid : (f g : Format) (x : Frame) (i r : ℕ) → Valid f x → i ≤ 8 → r ≤ 8 → (x.type ≡ 9 → i ≡ 0) → uncarried_zero g x.type i r ≡ true
    → Valid g (frame_by x.type x.quality i r x.core)
unfolding fields_good
modes_valid f g x i r v hi hr z u = record {
  type_known = v.type_known;
  quality_bit = v.quality_bit;
  core_length = v.core_length;
  fields_are_good =
      and_from _ _ (le-leb i 8 hi) (and_from _ _ (le-leb r 8 hr) (and_from _ _
      (exchanged (eqb x.type 9) (eqb x.indication 0) (eqb i 0) (leb (num 4 (drop 36 x.core)) 8) (λ e. eq-eqb i 0 (z (eqb-true _ _ e))) (sid-good f x v)) u));
}

without_valid : (f g : Format) (x : Frame) → Valid f x → Valid g (without_modes x)
without_valid f g x v = modes_valid f g x 0 0 v (omega arith) (omega arith) (λ e. refl) (or-true (carries_modes g x.type))

cond-within : (b : Bool) (n k : ℕ) → (b ≡ true → n ≤ k) → cond b n 0 ≤ k
cond-within true n k h = h refl
cond-within false n k h = omega arith

zero_or : (a b : Bool) (i r : ℕ) → (a ≡ true → b ≡ true) → (b || (eqb (cond a i 0) 0 && eqb (cond b r 0) 0)) ≡ true
zero_or a true i r h = refl
zero_or true false i r h = let z : false ≡ true = h refl in cc
zero_or false false i r h = refl

with_valid : (f : Format) (r : ℕ) (x : Frame) → r ≤ 8 → Valid f x → Valid if1 (with_modes r x)
with_valid f r x hr v =
    let t = x.type in
    modes_valid f if1 x (cond (leb t 8) t 0) (cond (leb t 9) r 0) v (cond-within (leb t 8) t 8 (leb-true t 8)) (cond-within (leb t 9) r 8 (λ e. hr))
    (ap (λ t. cond (leb t 8) t 0)) (zero_or (leb t 8) (leb t 9) t r (λ e. le-leb t 9 (omega (arith, leb-true t 8 e))))

pub carried-valid : (g f : Format) (r : ℕ) (x : Frame) → r ≤ 8 → Valid f x → Valid g (carried g f r x)
carried-valid if1 if1 r x hr v = v
carried-valid if1 if2 r x hr v = with_valid if2 r x hr v
carried-valid if1 storage r x hr v = with_valid storage r x hr v
carried-valid if2 f r x hr v = without_valid f if2 x v
carried-valid storage f r x hr v = without_valid f storage x v

-- type, quality and core stay
without_carried : (g f : Format) (r : ℕ) (x : Frame) → without_modes (carried g f r x) ≡ without_modes x
without_carried if1 if1 r x = refl
without_carried if1 if2 r x = refl
without_carried if1 storage r x = refl
without_carried if2 f r x = refl
without_carried storage f r x = refl

-- ---- there and back

abbrev pub round : (f g : Format) → ℕ → Frame → Frame
round f g r x = carried f g r (carried g f r x)

pub round-valid : (f g : Format) (r : ℕ) (x : Frame) → r ≤ 8 → Valid f x → Valid f (round f g r x)
round-valid f g r x hr v = carried-valid f g r (carried g f r x) hr (carried-valid g f r x hr v)

type-round : (f g : Format) (r : ℕ) (x : Frame) → (round f g r x).type ≡ x.type
type-round f g r x = ap (λ y. y.type) (without_carried f g r (carried g f r x) ∙ without_carried g f r x)

-- the way back writes as many octets
pub length-round : (f g : Format) (r : ℕ) → r ≤ 8 → (xs : List Frame) → Every (Valid f) xs → length (layouts f (map (round f g r) xs)) ≡ length (layouts f xs)
length-round f g r hr [] none = refl
length-round f g r hr (x ∷ xs) (first v vs) =
    let e : octets f (round f g r x).type ≡ octets f x.type = ap (octets f) (type-round f g r x) in
    omega (
      arith,
      length-append (layout f (round f g r x)) (layouts f (map (round f g r) xs)),
      length-append (layout f x) (layouts f xs),
      length-layout f (round f g r x) (round-valid f g r x hr v),
      length-layout f x v,
      length-round f g r hr xs vs,
    )

-- ---- which frames come back as they were

cond_is : (b : Bool) (n k : ℕ) → (b ≡ true → k ≡ n) → (b ≡ false → k ≡ 0) → cond b n 0 ≡ k
cond_is true n k h z = sym (h refl)
cond_is false n k h z = sym (z refl)

-- an IF1 frame that is not speech has indication 0
indication-zero : (x : Frame) → Valid if1 x → leb x.type 8 ≡ false → x.indication ≡ 0
indication-zero x v e = go (leb x.type 9) refl
  where
    go : (b : Bool) → leb x.type 9 ≡ b → x.indication ≡ 0
    go true d =
        let t : x.type ≡ 9 = omega (arith, leb-false x.type 8 e, leb-true x.type 9 d) in
        eqb-true _ _ (and_left _ _ (given (eqb x.type 9) _ (sid-good if1 x v) (eq-eqb _ 9 t)))
    go false d = ((fields_are_good if1 x v.fields_are_good).not_carried d).0

kept_with : (r : ℕ) (x : Frame) → Valid if1 x → Kept r x → with_modes r x ≡ x
kept_with r x v k =
    frame_path _ _ refl refl
    (cond_is (leb x.type 8) x.type x.indication (λ e. k.indication_is_type (leb-true _ _ e)) (indication-zero x v))
    (cond_is (leb x.type 9) r x.request (λ e. k.request_is_r (leb-true _ _ e)) (λ e. ((fields_are_good if1 x v.fields_are_good).not_carried e).1)) refl

with_kept : (r : ℕ) (x : Frame) → with_modes r x ≡ x → Kept r x
with_kept r x e = record {
  indication_is_type = λ h. sym (ap (λ y. y.indication) e) ∙ ap (λ c. cond c x.type 0) (le-leb _ 8 h);
  request_is_r = λ h. sym (ap (λ y. y.request) e) ∙ ap (λ c. cond c r 0) (le-leb _ 9 h);
}

-- a frame of a format without modes
without_same : (f : Format) (x : Frame) → carries_modes f x.type ≡ false → Valid f x → without_modes x ≡ x
without_same f x e v =
    let z = (fields_are_good f x v.fields_are_good).not_carried e in
    frame_path _ _ refl refl (sym z.0) (sym z.1) refl

-- ---- over all frames of a recording

module _ (P Q : Frame → Type 0) (h : Frame → Frame) where
  pub every_map : ((x : Frame) → P x → Q (h x)) → (xs : List Frame) → Every P xs → Every Q (map h xs)
  every_map e [] none = none
  every_map e (x ∷ xs) (first p ps) = first (e x p) (every_map e xs ps)

  map_same : ((x : Frame) → P x → Q x → h x ≡ x) → (xs : List Frame) → Every P xs → Every Q xs → map h xs ≡ xs
  map_same e [] none none = refl
  map_same e (x ∷ xs) (first p ps) (first q qs) = ap₂ ◌∷◌ (e x p q) (map_same e xs ps qs)

  same_map : ((x : Frame) → h x ≡ x → Q x) → (xs : List Frame) → map h xs ≡ xs → Every Q xs
  same_map e [] s = none
  same_map e (x ∷ xs) s = first (e x (cc)) (same_map e xs (cc))

-- towards the same format, every frame stays
carried_same : (f : Format) (r : ℕ) (x : Frame) → Valid f x → carried f f r x ≡ x
carried_same if1 r x v = refl
carried_same if2 r x v = without_same if2 x refl v
carried_same storage r x v = without_same storage x refl v

pub all_same : (f : Format) (r : ℕ) (xs : List Frame) → Every (Valid f) xs → map (carried f f r) xs ≡ xs
all_same f r xs vs = map_same (Valid f) (Valid f) (carried f f r) (λ x v w. carried_same f r x v) xs vs vs

kept_back : (r : ℕ) (xs : List Frame) → Every (Valid if1) xs → (map (with_modes r) xs ≡ xs) ↔ Every (Kept r) xs
kept_back r xs vs =
    (same_map (Valid if1) (Kept r) (with_modes r) (with_kept r) xs, map_same (Valid if1) (Kept r) (with_modes r) (kept_with r) xs vs)

bare-back : (f g : Format) (r : ℕ) → ((x : Frame) → Valid f x → round f g r x ≡ x) → (xs : List Frame) → Every (Valid f) xs
    → (map (round f g r) xs ≡ xs) ↔ Unit {0}
bare-back f g r e xs vs = ((λ s. tt), (λ u. map_same (Valid f) (Valid f) (round f g r) (λ x v w. e x v) xs vs vs))

pub comes_back : (f g : Format) → f ≢ g → (r : ℕ) (xs : List Frame) → Every (Valid f) xs → (map (round f g r) xs ≡ xs) ↔ Returns f r xs
comes_back if1 if1 n r xs vs = absurd (n refl)
comes_back if1 if2 n r xs vs = kept_back r xs vs
comes_back if1 storage n r xs vs = kept_back r xs vs
comes_back if2 g n r xs vs = bare-back if2 g r (λ x v. without_carried g if2 r x ∙ without_same if2 x refl v) xs vs
comes_back storage g n r xs vs = bare-back storage g r (λ x v. without_carried g storage r x ∙ without_same storage x refl v) xs vs
