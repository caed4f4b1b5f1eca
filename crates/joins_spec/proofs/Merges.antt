-- The merge is such a call, its result valid since each of its frames is one of the two recordings'. Where the merged list is the first's, its octets
-- are the first's too. Assumes nothing.
use mathlib.Core.Path.{◌≡◌, refl, sym, ap, ap₂, subst}
use mathlib.Core.Bool.{Bool, true, false, cond}
use mathlib.Core.List.{List, [], ◌∷◌}
use Prim.Native.Nat.{ℕ, ◌≤◌}
use native.Mathlib.Omega.{arith}
use lib.ListN.{length}
use Rattle.bits.specs.Bits.{Octets}
use Rattle.definitions.specs.Frames.{Format, Frame}
use Rattle.definitions.specs.Reading.{format_number}
use Rattle.recordings.specs.Recordings.{limit, write_recording}
use Rattle.recordings.specs.Claims.{first}
use Rattle.recordings.specs.ConversionClaims.{ValidRecording}
use Rattle.joins_spec.specs.Joined.{made}
use Rattle.joins_spec.specs.Joining.{is_gap, merged, merge_call}
use Rattle.joins_spec.specs.Claims.{JoinedInto, Joins}
use Rattle.joins_spec.specs.Merging.{Slots, NoGaps, Merges}
use Rattle.joins_spec.proofs.Joining.{whole, joined_into, joins}
use Rattle.joins_spec.proofs.Slots.{gap-none, merged-valid, merged-slots, only_merged}

pub merge_joins : Joins Slots merge_call
merge_joins = joins merged Slots merged-slots only_merged merged-valid

pub slots_into : (format : ℕ) (a b : List ℕ) (room : ℕ) → Octets a → Octets b → (f : Format) → format ≡ format_number f → (xs ys zs : List Frame)
    → ValidRecording f a xs → ValidRecording f b ys → Slots xs ys zs → length (write_recording f zs) ≤ limit → length (write_recording f zs) ≤ room
    → JoinedInto Slots format a b room (length zs) (write_recording f zs)
slots_into = joined_into merged Slots merged-slots only_merged merged-valid

-- ---- the first, unchanged

without_gaps : (xs ys : List Frame) → NoGaps xs → length ys ≤ length xs → merged xs ys ≡ xs
without_gaps [] [] n l = refl
without_gaps [] (y ∷ ys) n l = absurd (omega arith)
without_gaps (x ∷ xs) [] n l = refl
without_gaps (x ∷ xs) (y ∷ ys) (first t n) l = ap₂ ◌∷◌ (ap (λ b. cond b y x) (gap-none x t)) (without_gaps xs ys n (omega arith))

either-same : (b : Bool) (x : Frame) → cond b x x ≡ x
either-same true x = refl
either-same false x = refl

merged-same : (xs : List Frame) → merged xs xs ≡ xs
merged-same [] = refl
merged-same (x ∷ xs) = ap₂ ◌∷◌ (either-same (is_gap x) x) (merged-same xs)

comes_out : (f : Format) (a b : List ℕ) (xs ys : List Frame) (room : ℕ) → Octets a → Octets b → ValidRecording f a xs → ValidRecording f b ys
    → merged xs ys ≡ xs → length a ≤ room → merge_call (format_number f) a b room ≡ made (length xs, a)
comes_out f a b xs ys room oa ob v w e l =
    let r = whole f a xs oa v in
    let n = ap length r.laid in
    let s = subst (Slots xs ys) e (merged-slots xs ys) in
    let j = slots_into (format_number f) a b room oa ob f refl xs ys xs v w s (omega (arith, n, r.within)) (omega (arith, n)) in
    (merge_joins.exactly (format_number f) a b room (length xs) a oa ob).1
    (subst (JoinedInto Slots (format_number f) a b room (length xs)) (sym r.laid) j)

pub merges : Merges merge_call
merges = record {
  joins = merge_joins;
  unchanged = λ f a b xs ys room oa ob v w n m l. comes_out f a b xs ys room oa ob v w (without_gaps xs ys n m) l;
  with_itself = λ f a xs room o v l. comes_out f a a xs xs room o o v v (merged-same xs) l;
}
