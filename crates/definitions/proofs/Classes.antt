-- A frame's class: d(35) stands behind the 35 codec bits of a SID frame, so it is STI whatever they are. The claim decides every class, since
-- forty bits are such a core. A wrong classifier is tried on one SID frame. Assumes nothing.
use mathlib.Core.Path.{◌≡◌, refl, sym, ap, ◌∙◌, subst}
use mathlib.Core.Bool.{Bool, true, false, not, ◌||◌}
use mathlib.Core.List.{List, [], ◌∷◌, ◌++◌}
use Prim.Native.Nat.{ℕ, zero, suc, ◌≤◌}
use native.Mathlib.Omega.{arith}
use lib.Dec.{eqb, leb}
use lib.ListN.{length, get_or, take, drop, replicate, length-drop, take-append-drop}
use lib.Seq.{take_all, length-take-le, get_or-append_seam}
use borrow.Author.Tests.{leb-true, le-leb, eqb-true}
use Rattle.bits.specs.Bits.{digits, num}
use Rattle.bits.proofs.BitLaws.{digits-num-le}
use Rattle.bits.proofs.Tests.{given, every_below_lem}
use Rattle.definitions.specs.Frames.{known, core_bits, frame_by, sid_core}
use Rattle.definitions.specs.Reception.{sid_first, sid_update, sid_bad, speech, sid, speech_class, sid_class, class_of, frame_class, Classifier, ClassifiesFrames, ClassesFixed}
use Rattle.definitions.proofs.Tables.{known-below}
use Rattle.definitions.specs.WrongClassifiers.{sti_at_34, sti_before_quality}

speech-class : (t : ℕ) (good sti : Bool) → t ≤ 8 → class_of t good sti ≡ speech (speech_class good)
speech-class t good sti h = rw (le-leb t 8 h)

sti-at : (s : List Bool) (sti : Bool) (mode : ℕ) → length s ≡ 35 → get_or (sid_core s sti mode) 35 false ≡ sti
sti-at s sti mode l = ap (λ k. get_or (sid_core s sti mode) k false) (sym l) ∙ get_or-append_seam s sti (digits 4 mode) false

pub classifies_frames : ClassifiesFrames frame_class
classifies_frames = record {
  good_speech = λ t i r core h. speech-class t true (get_or core 35 false) h;
  bad_speech = λ t i r core h. speech-class t false (get_or core 35 false) h;
  first_sid = λ i r mode s l. ap (λ sti. sid (sid_class true sti)) (sti-at s false mode l);
  update_sid = λ i r mode s l. ap (λ sti. sid (sid_class true sti)) (sti-at s true mode l);
  bad_sid = λ i r mode s sti l. refl;
  lost = λ q i r core h. refl;
  empty = λ q i r core h. refl;
}

-- ---- two classifiers of which it is true

-- the five bits behind the codec bits
sti_and_mode : (l : List Bool) → length l ≡ 5 → l ≡ get_or l 0 false ∷ digits 4 (num 4 (drop 1 l))
sti_and_mode [] e = absurd (omega arith)
sti_and_mode (b ∷ l) e = ap (λ m. b ∷ m) (sym (take_all 4 l (omega arith)) ∙ sym (digits-num-le 4 l (omega arith)))

sid_cores : (core : List Bool) → length core ≡ 40 → core ≡ sid_core (take 35 core) (get_or (drop 35 core) 0 false) (num 4 (drop 1 (drop 35 core)))
sid_cores core l =
    sym (take-append-drop 35 core) ∙ ap (λ r. take 35 core ++ r) (sti_and_mode (drop 35 core) (omega (arith, length-drop 35 core)))

-- the types that are known, by one test
abbrev class_test : ℕ → Bool
class_test t = not (known t) || (leb t 8 || (eqb t 9 || (eqb t 14 || eqb t 15)))

class-cases : (t : ℕ) → known t ≡ true → (leb t 8 || (eqb t 9 || (eqb t 14 || eqb t 15))) ≡ true
unfolding known
class-cases t k = given (known t) _ (every_below_lem 16 class_test refl t (known-below t k)) k

module _ (c d : Classifier) (p : ClassifiesFrames c) (q : ClassifiesFrames d) where
  same-speech : (t y i r : ℕ) (core : List Bool) → t ≤ 8 → y ≤ 1 → c (frame_by t y i r core) ≡ d (frame_by t y i r core)
  same-speech t zero i r core h l = p.bad_speech t i r core h ∙ sym (q.bad_speech t i r core h)
  same-speech t (suc zero) i r core h l = p.good_speech t i r core h ∙ sym (q.good_speech t i r core h)
  same-speech t (suc (suc y)) i r core h l = absurd (omega arith)

  same-sid : (y i r mode : ℕ) (s : List Bool) (sti : Bool) → y ≤ 1 → length s ≡ 35
      → c (frame_by 9 y i r (sid_core s sti mode)) ≡ d (frame_by 9 y i r (sid_core s sti mode))
  same-sid zero i r mode s sti l k = p.bad_sid i r mode s sti k ∙ sym (q.bad_sid i r mode s sti k)
  same-sid (suc zero) i r mode s false l k = p.first_sid i r mode s k ∙ sym (q.first_sid i r mode s k)
  same-sid (suc zero) i r mode s true l k = p.update_sid i r mode s k ∙ sym (q.update_sid i r mode s k)
  same-sid (suc (suc y)) i r mode s sti l k = absurd (omega arith)

  -- by the four tests of the type
  same-class : (t y i r : ℕ) (core : List Bool) (b₁ b₂ b₃ b₄ : Bool) → leb t 8 ≡ b₁ → eqb t 9 ≡ b₂ → eqb t 14 ≡ b₃ → eqb t 15 ≡ b₄
      → (b₁ || (b₂ || (b₃ || b₄))) ≡ true → y ≤ 1 → length core ≡ core_bits t → c (frame_by t y i r core) ≡ d (frame_by t y i r core)
  unfolding core_bits
  same-class t y i r core true b₂ b₃ b₄ e₁ e₂ e₃ e₄ h l k = same-speech t y i r core (leb-true t 8 e₁) l
  same-class t y i r core false true b₃ b₄ e₁ e₂ e₃ e₄ h l k =
      let e = eqb-true t 9 e₂ in
      let k : length core ≡ 40 = k ∙ ap core_bits e in
      subst (λ t. c (frame_by t y i r core) ≡ d (frame_by t y i r core)) (sym e)
      (subst (λ core. c (frame_by 9 y i r core) ≡ d (frame_by 9 y i r core)) (sym (sid_cores core k))
      (same-sid y i r _ (take 35 core) (get_or (drop 35 core) 0 false) l (length-take-le 35 core (omega arith))))
  same-class t y i r core false false true b₄ e₁ e₂ e₃ e₄ h l k =
      subst (λ t. c (frame_by t y i r core) ≡ d (frame_by t y i r core)) (sym (eqb-true t 14 e₃)) (p.lost y i r core l ∙ sym (q.lost y i r core l))
  same-class t y i r core false false false true e₁ e₂ e₃ e₄ h l k =
      subst (λ t. c (frame_by t y i r core) ≡ d (frame_by t y i r core)) (sym (eqb-true t 15 e₄)) (p.empty y i r core l ∙ sym (q.empty y i r core l))
  same-class t y i r core false false false false e₁ e₂ e₃ e₄ h l k = absurd (let z : ◌≡◌ {A = ℕ} 0 1 = cc in omega arith)

pub classes_fixed : ClassesFixed
classes_fixed = record {
  same = λ c d p q x k l n.
      same-class c d p q x.type x.quality x.indication x.request x.core _ _ _ _ refl refl refl refl (class-cases x.type k) l n;
}

-- ---- wrong classifiers

-- s(35) is 1 and STI is 0
pub sti_at_34_lem : ClassifiesFrames sti_at_34 → ⊥
unfolding digits
sti_at_34_lem c =
    let e : sid sid_update ≡ sid sid_first = c.first_sid 0 0 0 (replicate 34 false ++ (true ∷ [])) refl in
    let z : ◌≡◌ {A = ℕ} 0 1 = cc in omega arith

-- quality is 0 and STI is 1
pub sti_before_quality_lem : ClassifiesFrames sti_before_quality → ⊥
unfolding digits
sti_before_quality_lem c =
    let e : sid sid_update ≡ sid sid_bad = c.bad_sid 0 0 0 (replicate 35 false) true refl in
    let z : ◌≡◌ {A = ℕ} 0 1 = cc in omega arith
