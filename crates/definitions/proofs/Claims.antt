-- Demand 2 for one frame, from the two directions of `Frames`: `read-begins` and `begins-read`. Assumes nothing.
use mathlib.Core.Path.{◌≡◌, refl, sym, ap, ap₂, ◌∙◌, subst}
use mathlib.Core.Bool.{Bool, true, false, not, ◌&&◌, ◌||◌}
use mathlib.Core.List.{List, [], ◌++◌, append-nil}
use Prim.Native.Nat.{ℕ, ◌-◌, ◌*◌, ◌≤◌}
use native.Mathlib.Omega.{arith}
use lib.Dec.{eqb, leb}
use lib.ListN.{length, take, drop, replicate, length-drop, take-append-drop}
use lib.Seq.{take_at, drop_at, take_all, length-take-le}
use borrow.Author.Tests.{leb-true, le-leb, eqb-true, eq-eqb}
use Rattle.bits.specs.Bits.{num, clear, bits, pack, octets_for, Octets}
use Rattle.bits.proofs.BitLaws.{num-clear, num-zero, length-bits, bits_pack, length-pack, pack-unique}
use Rattle.bits.proofs.Tests.{and_left, and_right, given}
use Rattle.definitions.specs.Outcome.{Outcome, refused, ok, unless, and_then}
use Rattle.definitions.specs.Frames.{Format, Frame, known, core_bits, octets, core_octets, layout, fields_good}
use Rattle.definitions.specs.Reading.{read_with, read_frame, format_numbered, into_buffer, read_call, core_fill_clear, frame_of, build_check, build_frame}
use Rattle.definitions.specs.Claims.{Valid, Begins, ReadsFrames, ReadsOneFrame, ReadsCalls, LayoutsDiffer, BuildsFrames}
use Rattle.definitions.proofs.Outcome.{and_then-ok, unless-ok}
use Rattle.definitions.proofs.Tables.{known-below}
use Rattle.definitions.proofs.Frames.{frame_path, length-layout, never, read-begins, begins-read}

pub reads_frames : ReadsFrames read_frame
reads_frames = record {
  exactly = λ f s x n o. ((λ h. (read-begins false f s x n o h).0), (λ b. begins-read false f s x n b refl));
}

pub reads_one_frame : ReadsOneFrame (read_with true)
reads_one_frame = record {
  exactly = λ f s x n o. (
    (λ h.
        let r = read-begins true f s x n o h in
        let b = r.0 in
        let l : length s ≤ n = leb-true _ _ r.1 in
        let e : s ≡ layout f x = sym (take_all n s l) ∙ b.laid in
        (b.valid, e, ap length e ∙ b.size)),
    (λ p.
        let e : n ≡ length s = sym p.2 in
        begins-read true f s x n
        (record { valid = p.0; size = ap length (sym p.1) ∙ p.2; laid = take_all n s (omega arith) ∙ p.1 })
        (le-leb (length s) n (omega arith))),
  );
}

pub reads_calls : ReadsCalls read_call
unfolding read_call
reads_calls = record {
  exactly = λ format s room x k o. (
    (λ h.
        let g = and_then-ok (format_numbered format) (λ f. and_then (read_with true f s) (λ y. into_buffer y.0 room)) (x, k) h in
        let y = and_then-ok (read_with true g.0 s) (λ y. into_buffer y.0 room) (x, k) g.2 in
        let b = unless-ok 10 (leb (core_octets y.0.0.type) room) (ok (y.0.0, core_octets y.0.0.type)) (x, k) y.2 in
        let e : ◌≡◌ {A = Frame × ℕ} (y.0.0, core_octets y.0.0.type) (x, k) = cc in
        let same : y.0.0 ≡ x = ap (λ (p : Frame × ℕ). p.0) e in
        let r = (reads_one_frame.exactly g.0 s y.0.0 y.0.1 o).0 y.1 in
        let size : core_octets y.0.0.type ≡ k = ap (λ (p : Frame × ℕ). p.1) e in
        let z = subst (λ z. Valid g.0 z × (s ≡ layout g.0 z) × (core_octets z.type ≤ room) × (core_octets z.type ≡ k)) same (r.0, r.1, leb-true _ _ b.0, size) in
        (g.0, g.1, z.0, z.1, z.2, z.3)),
    (λ p.
        let r = (reads_one_frame.exactly p.0 s x (length s) o).1 (p.2, p.3, refl) in
        ap (λ f. and_then f (λ f. and_then (read_with true f s) (λ y. into_buffer y.0 room))) p.1
        ∙ ap (λ y. and_then y (λ y. into_buffer y.0 room)) r
        ∙ ap (λ b. unless 10 b (ok (x, core_octets x.type))) (le-leb _ _ p.4)
        ∙ ap (λ k. ok (x, k)) p.5),
  );
}

-- one list begins with both layouts, so the reader shows both frames
pub layouts-differ : LayoutsDiffer layout
layouts-differ = record {
  prefix_free = prefix;
  injective = λ f x y v w e. (prefix f x y [] [] v w (λ i. omega arith) (λ i. omega arith) (ap (λ l. l ++ []) e)).0;
}
  where
    begins : (f : Format) (x : Frame) (a : List ℕ) → Valid f x → Begins f (layout f x ++ a) x (length (layout f x))
    begins f x a v = record { valid = v; size = refl; laid = take_at (layout f x) a _ refl }

    prefix : (f : Format) (x y : Frame) (a b : List ℕ) → Valid f x → Valid f y → Octets a → Octets b → layout f x ++ a ≡ layout f y ++ b → (x ≡ y) × (a ≡ b)
    prefix f x y a b v w oa ob e =
        let rx = begins-read false f (layout f x ++ a) x _ (begins f x a v) refl in
        let ry = ap (read_frame f) e ∙ begins-read false f (layout f y ++ b) y _ (begins f y b w) refl in
        let pair : ◌≡◌ {A = Frame × ℕ} (x, length (layout f x)) (y, length (layout f y)) = cc in
        let same : x ≡ y = ap (λ (p : Frame × ℕ). p.0) pair in
        let l : length (layout f x) ≡ length (layout f y) = ap (λ z. length (layout f z)) same in
        (same, sym (drop_at (layout f x) a _ refl) ∙ ap₂ drop l e ∙ drop_at (layout f y) b _ refl)

-- ---- the builder

-- a packed core whose filling is 0 is its bits, packed
pub packed_core : (k : ℕ) (c : List ℕ) → Octets c → length c ≡ octets_for k → clear (8 * length c - k) (drop k (bits c)) ≡ true
    → (length (take k (bits c)) ≡ k) × (c ≡ pack (take k (bits c)))
packed_core k c o l z =
    let n : length (take k (bits c)) ≡ k = length-take-le k (bits c) (omega (arith, length-bits c)) in
    let d : length (drop k (bits c)) ≡ 8 * length c - k = omega (arith, length-drop k (bits c), length-bits c) in
    let fill : drop k (bits c) ≡ replicate (8 * length c - k) false =
    sym (take_all (8 * length c - k) (drop k (bits c)) (omega arith))
    ∙ (num-zero (8 * length c - k) (drop k (bits c)) (omega arith)).0 (eqb-true _ _ z) in (
      n,
      pack-unique c (take k (bits c)) (8 * length c - k) o (l ∙ ap octets_for (sym n))
          (sym (take-append-drop k (bits c)) ∙ ap (λ r. take k (bits c) ++ r) fill),
    )

-- the bits of a packed core, and its filling
pub bits-core : (core : List Bool) → (take (length core) (bits (pack core)) ≡ core)
    × (clear (8 * length (pack core) - length core) (drop (length core) (bits (pack core))) ≡ true)
bits-core core =
    let r : List Bool = replicate (8 * octets_for (length core) - length core) false in
    let k : 8 * length (pack core) - length core ≡ 8 * octets_for (length core) - length core = ap (λ n. 8 * n - length core) (length-pack core) in
    let z : drop (length core) (bits (pack core)) ≡ replicate (8 * octets_for (length core) - length core) false ++ [] =
    ap (drop (length core)) (bits_pack core) ∙ drop_at core r _ refl ∙ sym (append-nil r) in (
      ap (take (length core)) (bits_pack core) ∙ take_at core r _ refl,
      eq-eqb _ 0 (ap₂ num k z ∙ num-clear (8 * octets_for (length core) - length core) []),
    )

checked : {A : Type 0} (b₁ b₂ b₃ b₄ b₅ : Bool) (a y : A) → unless 11 b₁ (unless 2 b₂ (unless 5 b₃ (unless 6 b₄ (unless 10 b₅ (ok a))))) ≡ ok y
    → (b₁ ≡ true) × (b₂ ≡ true) × (b₃ ≡ true) × (b₄ ≡ true) × (b₅ ≡ true) × (a ≡ y)
checked true true true true true a y h = (refl, refl, refl, refl, refl, cc)
checked false b₂ b₃ b₄ b₅ a y h = never 11 y h
checked true false b₃ b₄ b₅ a y h = never 2 y h
checked true true false b₄ b₅ a y h = never 5 y h
checked true true true false b₅ a y h = never 6 y h
checked true true true true false a y h = never 10 y h

-- what a building call has judged when it refuses nothing
pub record Checked (f : Format) (t q i r : ℕ) (c : List ℕ) (room : ℕ) (y : Frame × ℕ) : Type 0 where
  pub type_known : known t ≡ true
  pub quality_bit : q ≤ 1
  pub core-size : length c ≡ core_octets t
  pub fill : core_fill_clear t c ≡ true
  pub fields : fields_good f (frame_of t q i r c) ≡ true
  pub space : octets f t ≤ room
  pub shown : ◌≡◌ {A = Frame × ℕ} (frame_of t q i r c, octets f t) y

pub check_known : (f : Format) (t q i r : ℕ) (c : List ℕ) (room : ℕ) (y : Frame × ℕ) → build_check f t q i r c room ≡ ok y → Checked f t q i r c room y
unfolding build_check
check_known f t q i r c room y h =
    let x = frame_of t q i r c in
    let p =
    checked (leb t 15 && (leb q 1 && (not (known t) || eqb (length c) (core_octets t)))) (known t) (core_fill_clear t c)
    (fields_good f x) (leb (octets f t) room) (x, octets f t) y h in
    let q₁ = and_right (leb t 15) _ p.0 in
    record {
      type_known = p.1;
      quality_bit = leb-true _ _ (and_left _ _ q₁);
      core-size = eqb-true _ _ (given (known t) _ (and_right (leb q 1) _ q₁) p.1);
      fill = p.2;
      fields = p.3;
      space = leb-true _ _ p.4;
      shown = p.5;
    }

laid_out : (f : Format) (o : Outcome (Frame × ℕ)) (w : List ℕ) → and_then o (λ y. ok (layout f y.0)) ≡ ok w
    → (y : Frame × ℕ) × (o ≡ ok y) × (layout f y.0 ≡ w)
laid_out f (refused n) w h = never n w h
laid_out f (ok y) w h = (y, refl, cc)

build-sound : (f : Format) (t q i r : ℕ) (c : List ℕ) (room : ℕ) (w : List ℕ) → Octets c → build_frame f t q i r c room ≡ ok w
    → Valid f (frame_of t q i r c) × (w ≡ layout f (frame_of t q i r c)) × (c ≡ pack (frame_of t q i r c).core)
build-sound f t q i r c room w o h =
    let y = laid_out f (build_check f t q i r c room) w h in
    let p = check_known f t q i r c room y.0 y.1 in
    let k = packed_core (core_bits t) c o p.core-size p.fill in (
      record { type_known = p.type_known; quality_bit = p.quality_bit; core_length = k.0; fields_are_good = p.fields },
      sym y.2 ∙ ap (λ (z : Frame × ℕ). layout f z.0) (sym p.shown),
      k.1,
    )

pub frame_again : (f : Format) (x : Frame) → Valid f x → frame_of x.type x.quality x.indication x.request (pack x.core) ≡ x
frame_again f x v =
    frame_path _ _ refl refl refl refl (ap (λ k. take k (bits (pack x.core))) (sym v.core_length) ∙ (bits-core x.core).0)

build-complete : (f : Format) (x : Frame) (room : ℕ) → Valid f x → length (layout f x) ≤ room
    → build_frame f x.type x.quality x.indication x.request (pack x.core) room ≡ ok (layout f x)
unfolding build_check
build-complete f x room v h =
    let k = v.type_known in
    let t : leb x.type 15 ≡ true = le-leb x.type 15 (omega (arith, known-below x.type k)) in
    let q : leb x.quality 1 ≡ true = le-leb x.quality 1 v.quality_bit in
    let l : eqb (length (pack x.core)) (core_octets x.type) ≡ true = eq-eqb _ _ (length-pack x.core ∙ ap octets_for v.core_length) in
    let z : core_fill_clear x.type (pack x.core) ≡ true =
    ap (λ k. clear (8 * length (pack x.core) - k) (drop k (bits (pack x.core)))) (sym v.core_length) ∙ (bits-core x.core).1 in
    let r : leb (octets f x.type) room ≡ true = le-leb (octets f x.type) room (omega (arith, length-layout f x v)) in
    rw (frame_again f x v, t, q, k, l, z, v.fields_are_good, r)

pub builds_frames : BuildsFrames build_frame
builds_frames = record { sound = build-sound; complete = build-complete }
