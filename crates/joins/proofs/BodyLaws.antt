-- Octets that are valid frames one behind the other: the first frame, and what is behind it; and there is one such list. Assumes nothing.
use mathlib.Core.Path.{◌≡◌, refl, sym, ap, ◌∙◌}
use mathlib.Core.Bool.{false}
use mathlib.Core.List.{List, [], ◌∷◌, ◌++◌, append-nil}
use Prim.Native.Nat.{ℕ, ◌≤◌}
use native.Mathlib.Omega.{arith}
use lib.ListN.{length, take, drop, length-append}
use lib.Seq.{take_at, drop_at}
use Rattle.bits.specs.Bits.{bits}
use Rattle.definitions.specs.Frames.{Format, Frame, octets, layout, type_in}
use Rattle.definitions.specs.Claims.{Valid}
use Rattle.definitions.proofs.Tables.{sized}
use Rattle.definitions.proofs.Frames.{type-frame, length-layout, read-layout, judged}
use Rattle.recordings.specs.Placed.{Placed, done}
use Rattle.recordings.specs.Recordings.{scan, layouts}
use Rattle.recordings.specs.Claims.{Every, first}
use Rattle.recordings.proofs.Scan.{layouts-scan}
use Rattle.joins.specs.Answers.{Body}

-- the type that a frame's octets name, whatever stands behind them
pub type-layout : (f : Format) (x : Frame) (rest : List ℕ) → Valid f x → type_in f (bits (layout f x ++ rest)) ≡ x.type
type-layout f x rest v =
    let s = layout f x ++ rest in
    let j = judged false f s (x, octets f x.type) (read-layout false f x rest v refl) in
    sym (type-frame f (bits s)) ∙ ap (λ (y : Frame × ℕ). y.0.type) j.shown

pub type_alone : (f : Format) (x : Frame) → Valid f x → type_in f (bits (layout f x)) ≡ x.type
type_alone f x v = ap (λ s. type_in f (bits s)) (sym (append-nil (layout f x))) ∙ type-layout f x [] v

-- ---- the first frame

module _ (f : Format) (x : Frame) (xs : List Frame) {s : List ℕ} (b : Body f s (x ∷ xs)) where
  pub first-valid : Valid f x
  first-valid = go b.valid
    where
      go : Every (Valid f) (x ∷ xs) → Valid f x
      go (first v vs) = v

  pub first-type : type_in f (bits s) ≡ x.type
  first-type = ap (λ s. type_in f (bits s)) b.laid ∙ type-layout f x (layouts f xs) first-valid

  pub first-size : length (layout f x) ≡ octets f x.type
  first-size = length-layout f x first-valid

  pub first-some : 1 ≤ length (layout f x)
  first-some = omega (arith, first-size, (sized f x.type first-valid.type_known).some-octet)

  pub first-within : length (layout f x) ≤ length s
  first-within = omega (arith, ap length b.laid, length-append (layout f x) (layouts f xs))

  pub first-laid : take (length (layout f x)) s ≡ layout f x
  first-laid = ap (take (length (layout f x))) b.laid ∙ take_at (layout f x) (layouts f xs) _ refl

  pub behind : Body f (drop (length (layout f x)) s) xs
  behind = record {
    valid = go b.valid;
    laid = ap (drop (length (layout f x))) b.laid ∙ drop_at (layout f x) (layouts f xs) _ refl;
  }
    where
      go : Every (Valid f) (x ∷ xs) → Every (Valid f) xs
      go (first v vs) = vs

-- ---- the list

-- where octets are left, a frame is
pub some-frame : (f : Format) {s : List ℕ} (us : List Frame) → Body f s us → 1 ≤ length s → (x : Frame) × (xs : List Frame) × Body f s (x ∷ xs)
some-frame f [] b l = absurd (omega (arith, ap length b.laid))
some-frame f (x ∷ xs) b l = (x, xs, b)

pub one-list : {f : Format} {s : List ℕ} (us vs : List Frame) → Body f s us → Body f s vs → us ≡ vs
one-list {f} us vs b c =
    let e : ◌≡◌ {A = Placed (List Frame)} (done us) (done vs) =
    sym (layouts-scan f 0 0 us b.valid) ∙ ap (scan f 0 0 0) (sym b.laid ∙ c.laid) ∙ layouts-scan f 0 0 vs c.valid in
    cc
