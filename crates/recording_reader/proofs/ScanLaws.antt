-- The scan's sums: what is counted and what is still to come make the answer, and a frame goes from the one to the other. Assumes nothing.
use mathlib.Core.Path.{◌≡◌, refl, sym, ap, ap₂, ◌∙◌, subst}
use mathlib.Core.Bool.{false}
use mathlib.Core.List.{List, map, ◌∷◌, ◌++◌}
use Prim.Native.Nat.{ℕ, suc, ◌+◌, ◌-◌, ◌*◌, ◌<◌, ◌≤◌}
use native.Mathlib.Omega.{arith}
use lib.ListN.{length, take, drop, length-append, length-drop, drop_of_length-le}
use lib.Seq.{drop-drop, take_all}
use Rattle.std.specs.Prelude.{Result}
use Rattle.bits.specs.Bits.{bits, Octets}
use Rattle.bits.proofs.BitLaws.{octets-drop}
use Rattle.definitions.specs.Outcome.{refused, ok}
use Rattle.definitions.specs.Frames.{Format, Frame, octets, layout, core_in}
use Rattle.definitions.specs.Reading.{read_frame}
use Rattle.definitions.proofs.Frames.{read_known, read-begins}
use Rattle.frame.specs.Answers.{reading_of}
use Rattle.frame.specs.declared.FrameHeader.{FrameHeader}
use Rattle.frame.specs.declared.Refusal.{Refusal}
use Rattle.recordings.specs.Placed.{Placed, refused_at, done, and_then_at}
use Rattle.recordings.specs.Recordings.{file_header, followed_by, scan, scan_frames, layouts, write_recording}
use Rattle.recordings.specs.Conversion.{carried, converted}
use Rattle.recordings.proofs.Scan.{shown-size, scan_step, scan_stop}
use Rattle.recordings.proofs.Carried.{size-carried}

-- what was read from a part of the recording, which the code takes up to the end
pub part_read : (f : Format) (s : List ℕ) (at : ℕ) (r : Result (FrameHeader × ℕ) Refusal) → let d = take (length s - at) (drop at s) in
    reading_of (λ t. core_in f t (bits d)) r ≡ read_frame f d → reading_of (λ t. core_in f t (bits (drop at s))) r ≡ read_frame f (drop at s)
part_read f s at r h =
    subst (λ d. reading_of (λ t. core_in f t (bits d)) r ≡ read_frame f d) (take_all (length s - at) (drop at s) (omega (arith, length-drop at s))) h

-- frames, and the octets that a conversion of them writes
abbrev pub total : (f g : Format) → ℕ → Placed (List Frame) → Placed (ℕ × ℕ)
total f g r w = and_then_at w (λ xs. done (length xs, length (converted f g r xs)))

-- the same, where k frames and their octets are counted and w is still to come
abbrev rest : (f g : Format) → (r k need : ℕ) → Placed (List Frame) → Placed (ℕ × ℕ)
rest f g r k need w = and_then_at w (λ xs. done (k + length xs, need + length (layouts g (map (carried g f r) xs))))

total_rest : (f g : Format) (r : ℕ) (w : Placed (List Frame)) → total f g r w ≡ rest f g r 0 (length (file_header g)) w
unfolding write_recording
total_rest f g r (refused_at n k at) = refl
total_rest f g r (done xs) =
    ap₂ (λ a b. done (a, b)) (let e : length xs ≡ 0 + length xs = omega arith in e) (length-append (file_header g) (layouts g (map (carried g f r) xs)))

rest_before : (f g : Format) (r k need : ℕ) (x : Frame) (m : ℕ) (w : Placed (List Frame)) → length (layout g (carried g f r x)) ≡ m
    → rest f g r k need (followed_by x w) ≡ rest f g r (k + 1) (need + m) w
rest_before f g r k need x m (refused_at n j p) e = refl
rest_before f g r k need x m (done xs) e =
    let l = layouts g (map (carried g f r) xs) in
    let a : k + length (x ∷ xs) ≡ k + 1 + length xs = omega arith in
    let b : need + length (layout g (carried g f r x) ++ layouts g (map (carried g f r) xs)) ≡ need + m + length (layouts g (map (carried g f r) xs)) =
    omega (arith, length-append (layout g (carried g f r x)) l) in
    ap₂ (λ i j. done (i, j)) a b

pub record Counted (f g : Format) (s : List ℕ) (at k need : ℕ) : Type 0 where
  pub within : at ≤ length s
  pub few : k ≤ at
  pub small : need ≤ 9 + 477 * at
  pub sums : (r : ℕ) → total f g r (scan_frames f s) ≡ rest f g r k need (scan f 0 k at (drop at s))

pub counted_start : (f g : Format) (s : List ℕ) (at need : ℕ) → at ≡ length (file_header f) → need ≡ length (file_header g) → need ≤ 9 → length (file_header f) ≤ length s
    → Counted f g s at 0 need
counted_start f g s at need e d b h = record {
  within = omega arith;
  few = omega arith;
  small = omega arith;
  sums = λ r.
      total_rest f g r (scan_frames f s)
      ∙ ap₂ (λ a n. rest f g r 0 n (scan f 0 0 a (drop a s))) (sym e) (sym d);
}

-- the frame at hand is counted
pub counted_step : (f g : Format) (s : List ℕ) (at k need : ℕ) (x : Frame) (n m : ℕ) → Octets s → read_frame f (drop at s) ≡ ok (x, n) → m ≡ octets g x.type
    → m ≤ 477 → Counted f g s at k need → (1 ≤ n) × Counted f g s (at + n) (k + 1) (need + m)
counted_step f g s at k need x n m o h e small c =
    let d = drop at s in
    let od = octets-drop at s o in
    let one = shown-size f d x n od h in
    let kn = read_known false f d x n h in
    let v = (read-begins false f d x n od h).0.valid in
    let l = length-drop at s in (
      one,
      record {
        within = omega (arith, kn.1, kn.2, c.within);
        few = omega (arith, c.few);
        small = omega (arith, c.small);
        sums = λ r.
            c.sums r
            ∙ ap (rest f g r k need) (scan_step f k at d x n h one)
            ∙ rest_before f g r k need x m (scan f 0 (suc k) (at + n) (drop n d)) (size-carried f g r x v.type_known v.core_length ∙ sym e)
            ∙ ap₂ (λ j l. rest f g r (k + 1) (need + m) (scan f 0 j (at + n) l)) (let q : suc k ≡ k + 1 = omega arith in q) (drop-drop n at s);
      },
    )

pub counted_stop : (f g : Format) (s : List ℕ) (at k need n : ℕ) → at < length s → read_frame f (drop at s) ≡ refused n → Counted f g s at k need
    → (r : ℕ) → refused_at n k at ≡ total f g r (scan_frames f s)
counted_stop f g s at k need n l h c r =
    sym (c.sums r ∙ ap (rest f g r k need) (scan_stop f k at (drop at s) n (omega (arith, length-drop at s)) h))

pub counted-end : (f g : Format) (s : List ℕ) (at k need : ℕ) → length s ≤ at → Counted f g s at k need → (r : ℕ) → done (k, need) ≡ total f g r (scan_frames f s)
counted-end f g s at k need l c r =
    let a : k + 0 ≡ k = omega arith in
    let b : need + 0 ≡ need = omega arith in
    sym (c.sums r ∙ ap (λ d. rest f g r k need (scan f 0 k at d)) (drop_of_length-le s l) ∙ ap₂ (λ i j. done (i, j)) a b)
