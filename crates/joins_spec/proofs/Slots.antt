-- A slot of the merged list is the merge of the two lists' slots, by induction over both. So the merge meets its claim slot by in_slot, and nothing else
-- does, since a list is known by its slots. Assumes nothing.
use mathlib.Core.Path.{◌≡◌, refl, sym, ap, ap₂, ◌∙◌}
use mathlib.Core.Bool.{Bool, true, false, cond, ◌||◌}
use mathlib.Core.List.{List, [], ◌∷◌}
use mathlib.Core.Logic.{◌⊎◌, inl, inr}
use Prim.Native.Nat.{ℕ, zero, suc, ◌≤◌, ◌<◌}
use native.Mathlib.Omega.{arith}
use lib.Dec.{leb, eqb}
use lib.ListN.{length, get_or, take, drop}
use lib.Seq.{drop-nil}
use borrow.Author.Tests.{leb-true, leb-false, lt-leb, eq-eqb, ne_eqb}
use Rattle.std.specs.Prelude.{max}
use Rattle.definitions.specs.Frames.{Format, Frame}
use Rattle.definitions.specs.Reception.{Reception, SpeechClass, SidClass, speech, sid, speech_lost, no_data, speech_class, sid_class}
use Rattle.definitions.specs.Claims.{Valid}
use Rattle.recordings.specs.Report.{is_speech_lost, is_no_data}
use Rattle.recordings.specs.Claims.{Every, first}
use Rattle.joins_spec.specs.Joining.{is_gap, merged}
use Rattle.joins_spec.specs.Merging.{in_slot, Slots}

-- ---- lost or empty, by the type

abbrev gap_by : (speaks silent lost : Bool) → SpeechClass → SidClass → Bool
gap_by a b c s d =
    let k : Reception = cond a (speech s) (cond b (sid d) (cond c speech_lost no_data)) in is_speech_lost k || is_no_data k

neither : (c : Bool) (s : SpeechClass) (d : SidClass) → gap_by false false c s d ≡ true
neither true s d = refl
neither false s d = refl

module _ (x : Frame) where
  abbrev as_speech : SpeechClass
  as_speech = speech_class (eqb x.quality 1)

  abbrev as_sid : SidClass
  as_sid = sid_class (eqb x.quality 1) (get_or x.core 35 false)

  pub gap-none : x.type ≤ 9 → is_gap x ≡ false
  gap-none l = go (leb x.type 8) refl
    where
      go : (a : Bool) → leb x.type 8 ≡ a → gap_by a (eqb x.type 9) (eqb x.type 14) as_speech as_sid ≡ false
      go true e = refl
      go false e = ap (λ b. gap_by false b (eqb x.type 14) as_speech as_sid) (eq-eqb x.type 9 (omega (arith, leb-false x.type 8 e)))

  pub gap-there : 9 < x.type → is_gap x ≡ true
  gap-there l =
      ap₂ (λ a b. gap_by a b (eqb x.type 14) as_speech as_sid) (lt-leb x.type 8 (omega arith)) (ne_eqb x.type 9 (λ e. omega arith))
      ∙ neither (eqb x.type 14) as_speech as_sid

-- ---- merged

pub length-merged : (xs ys : List Frame) → length (merged xs ys) ≡ max (length xs) (length ys)
length-merged [] ys = omega arith
length-merged (x ∷ xs) [] = omega arith
length-merged (x ∷ xs) (y ∷ ys) = omega (arith, length-merged xs ys)

valid-either : (f : Format) (b : Bool) (x y : Frame) → Valid f x → Valid f y → Valid f (cond b y x)
valid-either f true x y v w = w
valid-either f false x y v w = v

pub merged-valid : (f : Format) (xs ys : List Frame) → Every (Valid f) xs → Every (Valid f) ys → Every (Valid f) (merged xs ys)
merged-valid f [] ys vs ws = ws
merged-valid f (x ∷ xs) [] vs ws = vs
merged-valid f (x ∷ xs) (y ∷ ys) (first v vs) (first w ws) = first (valid-either f (is_gap x) x y v w) (merged-valid f xs ys vs ws)

-- ---- slots

in_slot-nil : (i : ℕ) → in_slot i [] ≡ []
in_slot-nil i = ap (take 1) (drop-nil i)

merged-nil : (xs : List Frame) → merged xs [] ≡ xs
merged-nil [] = refl
merged-nil (x ∷ xs) = refl

in_slot-merged : (i : ℕ) (xs ys : List Frame) → in_slot i (merged xs ys) ≡ merged (in_slot i xs) (in_slot i ys)
in_slot-merged i [] ys = rw (in_slot-nil i)
in_slot-merged i (x ∷ xs) [] = rw (in_slot-nil i) (sym (merged-nil (in_slot i (x ∷ xs))))
in_slot-merged zero (x ∷ xs) (y ∷ ys) = refl
in_slot-merged (suc i) (x ∷ xs) (y ∷ ys) = in_slot-merged i xs ys

one_or_none : (xs : List Frame) → (take 1 xs ≡ []) ⊎ ((x : Frame) × (take 1 xs ≡ x ∷ []))
one_or_none [] = inl refl
one_or_none (x ∷ xs) = inr (x, refl)

-- a list is known by its slots
same-slots : (xs ys : List Frame) → ((i : ℕ) → in_slot i xs ≡ in_slot i ys) → xs ≡ ys
same-slots [] [] h = refl
same-slots [] (y ∷ ys) h = absurd (omega (arith, ap length (h 0)))
same-slots (x ∷ xs) [] h = absurd (omega (arith, ap length (h 0)))
same-slots (x ∷ xs) (y ∷ ys) h =
    let e : x ∷ [] ≡ y ∷ [] = h 0 in
    ap₂ ◌∷◌ (cc) (same-slots xs ys (λ i. h (suc i)))

-- ---- the claim

merged-kept : (x : Frame) (ys : List Frame) → x.type ≤ 9 → merged (x ∷ []) (take 1 ys) ≡ x ∷ []
merged-kept x [] l = refl
merged-kept x (y ∷ ys) l = ap (λ b. cond b y x ∷ []) (gap-none x l)

merged-filled : (x y : Frame) → 9 < x.type → merged (x ∷ []) (y ∷ []) ≡ y ∷ []
merged-filled x y l = ap (λ b. cond b y x ∷ []) (gap-there x l)

pub merged-slots : (xs ys : List Frame) → Slots xs ys (merged xs ys)
merged-slots xs ys = record {
  longer = length-merged xs ys;
  kept = λ i x h l. in_slot-merged i xs ys ∙ rw h (merged-kept x (drop i ys) l);
  filled = λ i x y h l g. in_slot-merged i xs ys ∙ rw (h, g) (merged-filled x y l);
  first_ended = λ i h. in_slot-merged i xs ys ∙ rw h;
  second_ended = λ i h. in_slot-merged i xs ys ∙ rw h (merged-nil (in_slot i xs));
}

module _ (xs ys zs : List Frame) (s : Slots xs ys zs) where
  in_slot-of : (i : ℕ) → in_slot i zs ≡ merged (in_slot i xs) (in_slot i ys)
  in_slot-of i = go (one_or_none (drop i xs)) (one_or_none (drop i ys))
    where
      go : (in_slot i xs ≡ []) ⊎ ((x : Frame) × (in_slot i xs ≡ x ∷ [])) → (in_slot i ys ≡ []) ⊎ ((y : Frame) × (in_slot i ys ≡ y ∷ []))
          → in_slot i zs ≡ merged (in_slot i xs) (in_slot i ys)
      go (inl h) y = s.first_ended i h ∙ rw h
      go (inr x) (inl g) = s.second_ended i g ∙ rw g (sym (merged-nil (in_slot i xs)))
      go (inr x) (inr y) = by_type (leb x.0.type 9) refl
        where
          by_type : (b : Bool) → leb x.0.type 9 ≡ b → in_slot i zs ≡ merged (in_slot i xs) (in_slot i ys)
          by_type true e = let l = leb-true _ _ e in s.kept i x.0 x.1 l ∙ rw x.1 (sym (merged-kept x.0 (drop i ys) l))
          by_type false e = let l = leb-false _ _ e in s.filled i x.0 y.0 x.1 l y.1 ∙ rw (x.1, y.1) (sym (merged-filled x.0 y.0 l))

  pub only_merged : zs ≡ merged xs ys
  only_merged = same-slots zs (merged xs ys) (λ i. in_slot-of i ∙ sym (in_slot-merged i xs ys))
