-- The conversion's tests, one after the other: 11, what the reading refuses, 9 for what would be written, and 10. Assumes nothing.
use mathlib.Core.Path.{◌≡◌, refl, sym, ap, ap₂, ◌∙◌}
use mathlib.Core.Bool.{Bool, true, false}
use mathlib.Core.List.{List}
use Prim.Native.Nat.{ℕ, ◌<◌, ◌≤◌}
use native.Mathlib.Omega.{arith}
use lib.Dec.{leb}
use lib.ListN.{length}
use borrow.Author.Tests.{leb-true, le-leb, lt-leb}
use Rattle.std.specs.Prelude.{Result}
use Rattle.definitions.specs.Outcome.{Outcome, refused, ok, unless, and_then}
use Rattle.definitions.specs.Frames.{Format, Frame}
use Rattle.definitions.specs.Reading.{format_numbered, overwritten}
use Rattle.definitions.proofs.Frames.{never}
use Rattle.recordings.specs.Placed.{Placed, refused_at, done, and_then_at, unless_at, placed}
use Rattle.recordings.specs.Recordings.{limit, read_recording}
use Rattle.recordings.specs.Conversion.{converted, conversion, arguments_judged, convert_call, counted_at, length_call, buffer_after}
use Rattle.recordings.proofs.Scan.{not_done, not_refused}
use Rattle.recording_reader.specs.Answers.{counts_of}
use Rattle.recording_reader.specs.declared.Counts.{Counts}
use Rattle.recording_reader.specs.declared.RefusedAt.{RefusedAt}
use Rattle.frame_carrier.specs.Asked.{asked}
use Rattle.recording_reader.proofs.ScanLaws.{total}
use Rattle.converter.specs.Output.{IntoBuffer}

-- ---- 11

module _ (from to request : ℕ) {A : Type 0} (next : Format → Format → Placed A) where
  abbrev asks : Outcome Format → Outcome Format → Bool → Outcome (Format × Format × ℕ)
  asks a b c = and_then a (λ f. and_then b (λ g. unless 11 c (ok (f, g, request))))

  abbrev judges : Outcome Format → Outcome Format → Bool → Placed A
  judges a b c = placed a 0 0 (λ f. placed b 0 0 (λ g. unless_at 11 c (next f g)))

  judged_refused : (n : ℕ) → refused n ≡ asked from to request → arguments_judged from to request next ≡ refused_at n 0 0
  judged_refused n h = go (format_numbered from) (format_numbered to) (leb request 8) h
    where
      go : (a b : Outcome Format) (c : Bool) → refused n ≡ asks a b c → judges a b c ≡ refused_at n 0 0
      go (refused m) b c h = let q : m ≡ n = cc in ap (λ k. refused_at k 0 0) q
      go (ok f) (refused m) c h = let q : m ≡ n = cc in ap (λ k. refused_at k 0 0) q
      go (ok f) (ok g) false h = let q : 11 ≡ n = cc in ap (λ k. refused_at k 0 0) q
      go (ok f) (ok g) true h = never n (f, g, request) h

  judged_passes : (f g : Format) (r : ℕ) → ok (f, g, r) ≡ asked from to request → (arguments_judged from to request next ≡ next f g) × (r ≡ request)
  judged_passes f g r h = go (format_numbered from) (format_numbered to) (leb request 8) h
    where
      go : (a b : Outcome Format) (c : Bool) → ok (f, g, r) ≡ asks a b c → (judges a b c ≡ next f g) × (r ≡ request)
      go (refused m) b c h = never m (f, g, r) (sym h)
      go (ok f') (refused m) c h = never m (f, g, r) (sym h)
      go (ok f') (ok g') false h = never 11 (f, g, r) (sym h)
      go (ok f') (ok g') true h =
          let q : ◌≡◌ {A = Format × Format × ℕ} (f, g, r) (f', g', request) = cc in
          (ap₂ next (sym (ap (λ (y : Format × Format × ℕ). y.0) q)) (sym (ap (λ (y : Format × Format × ℕ). y.1) q)), ap (λ (y : Format × Format × ℕ). y.2) q)

module _ (from to request : ℕ) (s : List ℕ) where
  pub length_refused : (n : ℕ) → refused n ≡ asked from to request → refused_at n 0 0 ≡ length_call from to request s
  unfolding length_call
  length_refused n h = sym (judged_refused from to request _ n h)

  pub length_passes : (f g : Format) (r : ℕ) → ok (f, g, r) ≡ asked from to request → counted_at (conversion f g r s) ≡ length_call from to request s
  unfolding length_call
  length_passes f g r h =
      let j = judged_passes from to request (λ f g. counted_at (conversion f g request s)) f g r h in
      ap (λ r. counted_at (conversion f g r s)) j.1 ∙ sym j.0

-- ---- what is judged before the room

abbrev planned : (f g : Format) → ℕ → Placed (List Frame) → Placed (ℕ × List ℕ)
planned f g r w =
    and_then_at w (λ xs. unless_at 9 (leb (length (converted f g r xs)) limit) (done (length xs, converted f g r xs)))

pub measured_refused : (f g : Format) (r : ℕ) (s : List ℕ) (n k at : ℕ) → refused_at n k at ≡ total f g r (read_recording f s)
    → refused_at n k at ≡ counted_at (conversion f g r s)
unfolding conversion
measured_refused f g r s n k at h = go (read_recording f s) h
  where
    go : (w : Placed (List Frame)) → refused_at n k at ≡ total f g r w → refused_at n k at ≡ counted_at (planned f g r w)
    go (refused_at m j p) q = q
    go (done xs) q = not_refused n k at _ (sym q)

pub measured_long : (f g : Format) (r : ℕ) (s : List ℕ) (k need : ℕ) → done (k, need) ≡ total f g r (read_recording f s) → limit < need
    → refused_at 9 0 0 ≡ counted_at (conversion f g r s)
unfolding conversion
measured_long f g r s k need h l = go (read_recording f s) h
  where
    go : (w : Placed (List Frame)) → done (k, need) ≡ total f g r w → refused_at 9 0 0 ≡ counted_at (planned f g r w)
    go (refused_at m j p) q = not_done m j p _ (sym q)
    go (done xs) q =
        let c : ◌≡◌ {A = ℕ × ℕ} (k, need) (length xs, length (converted f g r xs)) = cc in
        let e : need ≡ length (converted f g r xs) = ap (λ (y : ℕ × ℕ). y.1) c in
        sym (ap (λ b. counted_at (unless_at 9 b (done (length xs, converted f g r xs)))) (lt-leb (length (converted f g r xs)) limit (omega arith)))

pub measured : (f g : Format) (r : ℕ) (s : List ℕ) (k need : ℕ) → done (k, need) ≡ total f g r (read_recording f s) → need ≤ limit
    → done (k, need) ≡ counted_at (conversion f g r s)
unfolding conversion
measured f g r s k need h l = go (read_recording f s) h
  where
    go : (w : Placed (List Frame)) → done (k, need) ≡ total f g r w → done (k, need) ≡ counted_at (planned f g r w)
    go (refused_at m j p) q = not_done m j p _ (sym q)
    go (done xs) q =
        let c : ◌≡◌ {A = ℕ × ℕ} (k, need) (length xs, length (converted f g r xs)) = cc in
        let e : need ≡ length (converted f g r xs) = ap (λ (y : ℕ × ℕ). y.1) c in
        q ∙ sym (ap (λ b. counted_at (unless_at 9 b (done (length xs, converted f g r xs)))) (le-leb (length (converted f g r xs)) limit (omega arith)))

-- ---- the call with a buffer

-- a conversion that nothing in front of the room refuses
pub record Planned (f g : Format) (r : ℕ) (s : List ℕ) (k need : ℕ) : Type 0 where
  pub xs : List Frame
  pub read : read_recording f s ≡ done xs
  pub frames : k ≡ length xs
  pub size : need ≡ length (converted f g r xs)
  pub within : length (converted f g r xs) ≤ limit
  pub written : conversion f g r s ≡ done (length xs, converted f g r xs)

pub planned_is : (f g : Format) (r : ℕ) (s : List ℕ) (k need : ℕ) → done (k, need) ≡ counted_at (conversion f g r s) → Planned f g r s k need
unfolding conversion
planned_is f g r s k need h = go (read_recording f s) refl h
  where
    judge : (w : List Frame) (b : Bool) → done (k, need) ≡ counted_at (unless_at 9 b (done (length w, converted f g r w)))
        → (b ≡ true) × (◌≡◌ {A = Placed (ℕ × ℕ)} (done (k, need)) (done (length w, length (converted f g r w))))
    judge w true q = (refl, q)
    judge w false q = not_done 9 0 0 _ (sym q)

    go : (w : Placed (List Frame)) → read_recording f s ≡ w → done (k, need) ≡ counted_at (planned f g r w) → Planned f g r s k need
    go (refused_at m j p) e q = not_done m j p _ (sym q)
    go (done xs) e q =
        let b = judge xs (leb (length (converted f g r xs)) limit) q in
        let d = b.1 in
        let c : ◌≡◌ {A = ℕ × ℕ} (k, need) (length xs, length (converted f g r xs)) = cc in
        record {
          xs = xs;
          read = e;
          frames = ap (λ (y : ℕ × ℕ). y.0) c;
          size = ap (λ (y : ℕ × ℕ). y.1) c;
          within = leb-true _ _ b.0;
          written = ap (planned f g r) e ∙ ap (λ t. unless_at 9 t (done (length xs, converted f g r xs))) b.0;
        }

pub refused_is : (o : Placed (ℕ × List ℕ)) (n k at : ℕ) → refused_at n k at ≡ counted_at o → o ≡ refused_at n k at
refused_is (refused_at m j p) n k at h =
    let a : m ≡ n = cc in
    let b : j ≡ k = cc in
    let c : p ≡ at = cc in
    λ i. refused_at (a i) (b i) (c i)
refused_is (done y) n k at h = not_refused n k at _ (sym h)

-- a refused call leaves the buffer
pub into_refused : (o : Placed (ℕ × List ℕ)) (d : List ℕ) (a : Result Counts RefusedAt) (n k at : ℕ) → o ≡ refused_at n k at → counts_of a ≡ refused_at n k at → IntoBuffer o d d a
into_refused o d a n k at e h = record { answer = h ∙ ap counted_at (sym e); buffer = ap (λ o. buffer_after o d) (sym e) }

-- refused by 11
pub into_unasked : (from to request : ℕ) (s d : List ℕ) (a : Result Counts RefusedAt) (n : ℕ) → refused n ≡ asked from to request → counts_of a ≡ refused_at n 0 0
    → IntoBuffer (convert_call from to request s (length d)) d d a
unfolding convert_call
into_unasked from to request s d a n h e = into_refused _ d a n 0 0 (judged_refused from to request _ n h) e

module _ (from to request : ℕ) (s d : List ℕ) (f g : Format) (r : ℕ) (q : ok (f, g, r) ≡ asked from to request) where
  call_is : convert_call from to request s (length d) ≡ and_then_at (conversion f g r s) (λ y. unless_at 10 (leb (length y.1) (length d)) (done y))
  unfolding convert_call
  call_is =
      let j = judged_passes from to request (λ f g. and_then_at (conversion f g request s) (λ y. unless_at 10 (leb (length y.1) (length d)) (done y))) f g r q in
      j.0 ∙ ap (λ r. and_then_at (conversion f g r s) (λ y. unless_at 10 (leb (length y.1) (length d)) (done y))) (sym j.1)

  pub into_refused_reading : (a : Result Counts RefusedAt) (n k at : ℕ) → counts_of a ≡ refused_at n k at → refused_at n k at ≡ counted_at (conversion f g r s)
      → IntoBuffer (convert_call from to request s (length d)) d d a
  into_refused_reading a n k at h e =
      into_refused (convert_call from to request s (length d)) d a n k at
      (call_is ∙ ap (λ o. and_then_at o (λ y. unless_at 10 (leb (length y.1) (length d)) (done y))) (refused_is (conversion f g r s) n k at e)) h

  module _ (k need : ℕ) (p : Planned f g r s k need) where
    room-judged : (b : Bool) → leb (length (converted f g r p.xs)) (length d) ≡ b
        → convert_call from to request s (length d) ≡ unless_at 10 b (done (length p.xs, converted f g r p.xs))
    room-judged b e =
        call_is ∙ ap (λ o. and_then_at o (λ y. unless_at 10 (leb (length y.1) (length d)) (done y))) p.written
        ∙ ap (λ t. unless_at 10 t (done (length p.xs, converted f g r p.xs))) e

    pub into_short : (a : Result Counts RefusedAt) → length d < need → counts_of a ≡ refused_at 10 0 0 → IntoBuffer (convert_call from to request s (length d)) d d a
    into_short a l h =
        into_refused (convert_call from to request s (length d)) d a 10 0 0
        (room-judged false (lt-leb (length (converted f g r p.xs)) (length d) (omega (arith, p.size)))) h

    pub into_done : (d' : List ℕ) (a : Result Counts RefusedAt) → need ≤ length d → counts_of a ≡ done (k, need) → d' ≡ overwritten (converted f g r p.xs) d
        → IntoBuffer (convert_call from to request s (length d)) d d' a
    into_done d' a l h e =
        let o = room-judged true (le-leb (length (converted f g r p.xs)) (length d) (omega (arith, p.size))) in
        record {
          answer = h ∙ ap₂ (λ i j. done (i, j)) p.frames p.size ∙ ap counted_at (sym o);
          buffer = e ∙ ap (λ o. buffer_after o d) (sym o);
        }
