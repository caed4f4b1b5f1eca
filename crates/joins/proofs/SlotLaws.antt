-- Two bodies side by side: what is written so far and the merge of what is left of both make the merged frames, and a slot goes from the one to the
-- other. Where one has nothing left, what is left of the other is the rest. Assumes nothing.
use mathlib.Core.Path.{◌≡◌, refl, sym, ap, ap₂, ◌∙◌}
use mathlib.Core.Bool.{Bool, true, false, cond}
use mathlib.Core.Logic.{◌⊎◌, ⊎_elim}
use mathlib.Core.List.{List, [], ◌∷◌, ◌++◌, append_assoc, append-nil}
use Prim.Native.Nat.{ℕ, ◌<◌, ◌+◌, ◌≤◌}
use native.Mathlib.Omega.{arith}
use lib.ListN.{length, take, drop, length-append, length-drop}
use lib.Seq.{take_at, drop_at, drop-drop}
use Rattle.definitions.specs.Frames.{Format, Frame, layout}
use Rattle.definitions.specs.Reading.{overwritten}
use Rattle.recordings.specs.Recordings.{layouts}
use Rattle.joins_spec.specs.Joining.{is_gap, merged}
use Rattle.joins.specs.Answers.{put_at, Body, NextSlot}
use Rattle.joins.proofs.BodyLaws.{first-some, first-within, one-list}

-- ---- put behind what is written

pub put-behind : (w s d₀ : List ℕ) (to : ℕ) → to ≡ length w → put_at s to (overwritten w d₀) ≡ overwritten (w ++ s) d₀
put-behind w s d₀ to e =
    let d = overwritten w d₀ in
    let n = length s in
    let t : take to d ≡ w = take_at w (drop (length w) d₀) to (sym e) in
    let k : length w + n ≡ length (w ++ s) = sym (length-append w s) in
    let b : drop (to + n) d ≡ drop (length (w ++ s)) d₀ =
    sym (drop-drop n to d) ∙ ap (drop n) (drop_at w (drop (length w) d₀) to (sym e)) ∙ drop-drop n (length w) d₀ ∙ ap (λ j. drop j d₀) k in
    ap₂ (λ a c. a ++ (s ++ c)) t b ∙ sym (append_assoc w s (drop (length (w ++ s)) d₀))

pub length-overwritten : (w d : List ℕ) → length w ≤ length d → length (overwritten w d) ≡ length d
length-overwritten w d h = omega (arith, length-append w (drop (length w) d), length-drop (length w) d)

-- ---- both

-- w is written; a and b are left
pub record Passed (f : Format) (first second w a b : List ℕ) : Type 0 where
  pub xs : List Frame
  pub ys : List Frame
  pub us : List Frame
  pub vs : List Frame
  pub of_first : Body f first xs
  pub of_second : Body f second ys
  pub left_first : Body f a us
  pub left_second : Body f b vs
  pub so_far : w ++ layouts f (merged us vs) ≡ layouts f (merged xs ys)
  pub small : length w + length a + length b ≤ length first + length second

-- the whole is that of any frames of the two
pub whole-is : {f : Format} {first second w a b : List ℕ} (p : Passed f first second w a b) (xs ys : List Frame) → Body f first xs → Body f second ys
    → layouts f (merged p.xs p.ys) ≡ layouts f (merged xs ys)
whole-is {f} p xs ys g h = ap₂ (λ u v. layouts f (merged u v)) (one-list p.xs xs p.of_first g) (one-list p.ys ys p.of_second h)

-- and so is its room
pub whole-room : {f : Format} {first second w a b : List ℕ} (n : ℕ) (p : Passed f first second w a b)
    → (of : (xs : List Frame) × (ys : List Frame) × Body f first xs × Body f second ys × (length (layouts f (merged xs ys)) ≤ n)) → length (layouts f (merged p.xs p.ys)) ≤ n
whole-room n p of = omega (arith, of.4, ap length (whole-is p of.0 of.1 of.2 of.3))

-- ---- a slot that both have

module _ (f : Format) {a b z a' b' : List ℕ} (t : NextSlot f a b z a' b') where
  size-first : length a ≡ length (layout f t.u) + length a'
  size-first = omega (arith, ap length t.in_first.laid, ap length t.behind_first.laid, length-append (layout f t.u) (layouts f t.us))

  size-second : length b ≡ length (layout f t.v) + length b'
  size-second = omega (arith, ap length t.in_second.laid, ap length t.behind_second.laid, length-append (layout f t.v) (layouts f t.vs))

  size-slot : length z ≤ length (layout f t.u) + length (layout f t.v)
  size-slot = go (is_gap t.u) (ap length t.chosen)
    where
      go : (c : Bool) → length z ≡ length (layout f (cond c t.v t.u)) → length z ≤ length (layout f t.u) + length (layout f t.v)
      go true e = omega arith
      go false e = omega arith

  pub shorter : length a' < length a
  shorter = omega (arith, size-first, first-some f t.u t.us t.in_first)

module _ {f : Format} {first second w a b : List ℕ} (p : Passed f first second w a b) where
  written-within : length w ≤ length (layouts f (merged p.xs p.ys))
  written-within = omega (arith, ap length p.so_far, length-append w (layouts f (merged p.us p.vs)))

  -- a buffer d₀ with room for the whole, to which w is written
  pub as-long : (d₀ d : List ℕ) → length (layouts f (merged p.xs p.ys)) ≤ length d₀ → d ≡ overwritten w d₀ → length d ≡ length d₀
  as-long d₀ d h e = ap length e ∙ length-overwritten w d₀ (omega (arith, written-within))

  module _ {z a' b' : List ℕ} (t : NextSlot f a b z a' b') where
    slot-there : layouts f (merged p.us p.vs) ≡ z ++ layouts f (merged t.us t.vs)
    slot-there =
        ap₂ (λ u v. layouts f (merged u v)) (one-list p.us (t.u ∷ t.us) p.left_first t.in_first) (one-list p.vs (t.v ∷ t.vs) p.left_second t.in_second)
        ∙ ap (λ s. s ++ layouts f (merged t.us t.vs)) (sym t.chosen)

    pub slot-room : length w + length z ≤ length (layouts f (merged p.xs p.ys))
    slot-room =
        omega (
          arith,
          ap length p.so_far,
          length-append w (layouts f (merged p.us p.vs)),
          ap length slot-there,
          length-append z (layouts f (merged t.us t.vs)),
        )

    pub passed-slot : Passed f first second (w ++ z) a' b'
    passed-slot = record {
      xs = p.xs;
      ys = p.ys;
      us = t.us;
      vs = t.vs;
      of_first = p.of_first;
      of_second = p.of_second;
      left_first = t.behind_first;
      left_second = t.behind_second;
      so_far = append_assoc w z (layouts f (merged t.us t.vs)) ∙ ap (λ s. w ++ s) (sym slot-there) ∙ p.so_far;
      small = omega (arith, p.small, size-first f t, size-second f t, size-slot f t, length-append w z);
    }

  -- ---- behind the slots that both have

  module _ (ended : (length a ≡ 0) ⊎ (length b ≡ 0)) where
    tails : a ++ b ≡ layouts f (merged p.us p.vs)
    tails = go p.us p.vs p.left_first p.left_second
      where
        go : (us vs : List Frame) → Body f a us → Body f b vs → a ++ b ≡ layouts f (merged us vs)
        go [] vs g h = ap₂ ◌++◌ g.laid h.laid
        go (u ∷ us) [] g h = ap₂ ◌++◌ g.laid h.laid ∙ append-nil (layouts f (u ∷ us))
        go (u ∷ us) (v ∷ vs) g h =
            absurd (
            ⊎_elim
            (λ e. omega (arith, e, first-some f u us g, first-within f u us g))
            (λ e. omega (arith, e, first-some f v vs h, first-within f v vs h)) ended
            )

    pub passed-all : (w ++ a) ++ b ≡ layouts f (merged p.xs p.ys)
    passed-all = append_assoc w a b ∙ ap (λ s. w ++ s) tails ∙ p.so_far

    pub size-all : length w + length a + length b ≡ length (layouts f (merged p.xs p.ys))
    size-all = omega (arith, ap length passed-all, length-append (w ++ a) b, length-append w a)
