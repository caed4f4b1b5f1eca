-- Runs of bits put one behind the other are the packed core, and of a packed core the builder judges 6 and 10 alone. Assumes nothing.
use mathlib.Core.Path.{◌≡◌, refl, sym, ap, ap₂, subst, ◌∙◌}
use mathlib.Core.Bool.{Bool, true, false, cond}
use mathlib.Core.List.{List, [], ◌++◌, append_assoc}
use Prim.Native.Nat.{ℕ, ◌+◌, ◌-◌, ◌*◌, ◌<◌, ◌≤◌}
use native.Mathlib.Nat.{zero-add}
use native.Mathlib.Omega.{arith}
use Rattle.std.proofs.Common.{Option, None, Result, Ok, Err}
use lib.Dec.{eqb, leb}
use lib.ListN.{length, take, drop, length-append}
use lib.Seq.{drop-drop, drop-append-add, take_at, length-take-le}
use borrow.Author.Tests.{le-leb, lt-leb, eq-eqb}
use Rattle.bits.specs.Bits.{clear, bits, packs, pack, octets_for}
use Rattle.bits.proofs.BitLaws.{length-bits, length-pack, take_packed}
use Rattle.definitions.specs.Outcome.{Outcome, refused, ok, unless, and_then}
use Rattle.definitions.specs.Frames.{if1, Frame, frame_by, known, core_bits, octets, core_octets, layout, fields_good}
use Rattle.definitions.specs.Reading.{buffer_core, core_fill_clear, frame_of, build_check, build_frame, counted, output_after}
use Rattle.definitions.proofs.Tables.{known-below, sized, core-most}
use Rattle.definitions.proofs.Frames.{frame_path, size-layout}
use Rattle.definitions.proofs.Claims.{bits-core}
use Rattle.frame.specs.Answers.{number_of}
use Rattle.frame.specs.declared.Refusal.{Refusal}
use Rattle.frame.proofs.TableLaws.{modes_carried}
use Rattle.frame_writer.specs.Writing.{Writable}
use Rattle.frame_builder.specs.Output.{IntoOutput}
use Rattle.frame_builder.proofs.BuilderLaws.{modes_fit}
use Rattle.links.specs.declared.Combination.{Combination}
use Rattle.links.specs.declared.Link.{Link}
use Rattle.links.specs.Calls.{joined, up_frame, frame_written, up_call}
use Rattle.links.proofs.SetLaws.{combination-good}
use Rattle.uplink_judge.specs.Judging.{writes, HasCore, Judges}
use Rattle.uplink_judge.proofs.JudgeLaws.{there₁, there₂, there₃, length-joined}
use Rattle.uplink.specs.Subflows.{Joinable}

-- ---- joined

pub joinable : {c : Combination} {s₁ s₂ s₃ : List ℕ} (core : List ℕ) → HasCore c s₁ s₂ s₃ → length core ≡ 60 → Joinable c s₁ s₂ s₃ core
joinable {c} {s₁} {s₂} {s₃} core h l =
    let k = combination-good c h.good in
    record {
      there1 = there₁ c s₁ s₂ s₃ h.flows;
      there2 = there₂ c s₁ s₂ s₃ h.flows;
      there3 = there₃ c s₁ s₂ s₃ h.flows;
      room = omega (arith, k.sum, core-most c.frame_type k.type_known);
    }

-- a run put behind others
pub put-behind : (x y : List Bool) (d₀ d e : List ℕ) (at n : ℕ) → length y ≡ n → length x ≡ at → d ≡ pack x ++ drop (octets_for at) d₀
    → e ≡ pack (take at (bits d) ++ y) ++ drop (octets_for (at + n)) d → e ≡ pack (x ++ y) ++ drop (octets_for (at + n)) d₀
put-behind x y d₀ d e at n l k h put =
    let back : octets_for (at + n) ≡ length (pack x) + (octets_for (at + n) - octets_for at) = omega (arith, length-pack x) in
    let front : take at (bits d) ≡ x = ap₂ (λ m d. take m (bits d)) (sym k) h ∙ take_packed x (drop (octets_for at) d₀) in
    let behind : drop (octets_for (at + n)) d ≡ drop (octets_for (at + n)) d₀ =
    ap₂ drop back h ∙ drop-append-add (pack x) (drop (octets_for at) d₀) (octets_for (at + n) - octets_for at)
    ∙ drop-drop (octets_for (at + n) - octets_for at) (octets_for at) d₀
    ∙ ap (λ m. drop m d₀) {x = octets_for at + (octets_for (at + n) - octets_for at)} {y = octets_for (at + n)} (omega arith) in
    put ∙ ap₂ (λ l r. pack (l ++ y) ++ r) front behind

pub joins : (c : Combination) (s₁ s₂ s₃ d₀ d₁ d₂ d₃ : List ℕ) → Joinable c s₁ s₂ s₃ d₀
    → ((x : List Bool) (d : List ℕ) → length x ≡ 0 → d₀ ≡ pack x ++ drop (octets_for 0) d → d₁ ≡ pack (x ++ take c.size1 (bits s₁)) ++ drop (octets_for (0 + c.size1)) d)
    → ((x : List Bool) (d : List ℕ) → length x ≡ c.size1 → d₁ ≡ pack x ++ drop (octets_for c.size1) d
    → d₂ ≡ pack (x ++ take c.size2 (bits s₂)) ++ drop (octets_for (c.size1 + c.size2)) d)
    → ((x : List Bool) (d : List ℕ) → length x ≡ c.size1 + c.size2 → d₂ ≡ pack x ++ drop (octets_for (c.size1 + c.size2)) d
    → d₃ ≡ pack (x ++ take c.size3 (bits s₃)) ++ drop (octets_for (c.size1 + c.size2 + c.size3)) d)
    → d₃ ≡ pack (joined c s₁ s₂ s₃) ++ drop (octets_for (c.size1 + c.size2 + c.size3)) d₀
unfolding packs pack
joins c s₁ s₂ s₃ d₀ d₁ d₂ d₃ j e₁ e₂ e₃ =
    let x : List Bool = take c.size1 (bits s₁) in
    let y : List Bool = take c.size2 (bits s₂) in
    let z : List Bool = take c.size3 (bits s₃) in
    let lx : length (take c.size1 (bits s₁)) ≡ c.size1 = length-take-le c.size1 (bits s₁) (omega (arith, length-bits s₁, j.there1)) in
    let ly : length (take c.size2 (bits s₂)) ≡ c.size2 = length-take-le c.size2 (bits s₂) (omega (arith, length-bits s₂, j.there2)) in
    let f₁ : d₁ ≡ pack x ++ drop (octets_for c.size1) d₀ =
    e₁ [] d₀ refl refl ∙ ap (λ n. pack x ++ drop (octets_for n) d₀) (zero-add c.size1) in
    e₃ (x ++ y) d₀ (length-append x y ∙ ap₂ ◌+◌ lx ly) (e₂ x d₀ lx f₁)
    ∙ ap (λ l. pack l ++ drop (octets_for (c.size1 + c.size2 + c.size3)) d₀) (append_assoc x y z)

-- the packed core in front of a buffer
pub core_front : (l : List Bool) (d r : List ℕ) (n : ℕ) → d ≡ pack l ++ r → n ≡ octets_for (length l) → take n d ≡ pack l
core_front l d r n e h = ap (take n) e ∙ take_at (pack l) r n (length-pack l ∙ sym h)

-- ---- the builder, of a core that is packed

judged_last : (b₁ b₂ : Bool) (x : Frame) (n : ℕ)
    → and_then {A = Frame × ℕ} (unless 6 b₁ (unless 10 b₂ (ok (x, n)))) (λ y. ok (layout if1 y.0)) ≡ unless 6 b₁ (unless 10 b₂ (ok (layout if1 x)))
judged_last true true x n = refl
judged_last true false x n = refl
judged_last false b₂ x n = refl

pub build-written : (t q i r : ℕ) (core : List Bool) (room : ℕ) → known t ≡ true → q ≤ 1 → length core ≡ core_bits t
    → build_frame if1 t q i r (pack core) room ≡ frame_written (frame_by t q i r core) room
unfolding build_check
build-written t q i r core room k hq size =
    let x : Frame = frame_by t q i r core in
    let same : frame_of t q i r (pack core) ≡ frame_by t q i r core =
    frame_path _ _ refl refl refl refl (ap (λ k. take k (bits (pack core))) (sym size) ∙ (bits-core core).0) in
    let ht : leb t 15 ≡ true = le-leb t 15 (omega (arith, known-below t k)) in
    let l : eqb (length (pack core)) (core_octets t) ≡ true = eq-eqb _ _ (length-pack core ∙ ap octets_for size) in
    let z : core_fill_clear t (pack core) ≡ true =
    ap (λ k. clear (8 * length (pack core) - k) (drop k (bits (pack core)))) (sym size) ∙ (bits-core core).1 in
    rw (same, ht, le-leb q 1 hq, k, l, z, judged_last)

-- no octets are the packed core of no bits
build-empty : (q room : ℕ) → q < 2 → build_frame if1 15 q 0 0 [] room ≡ frame_written (frame_by 15 q 0 0 []) room
unfolding known core_bits pack packs
build-empty q room hq = build-written 15 q 0 0 [] room refl (omega arith) refl

-- ---- the promise

pub refused-up : (o : Outcome (List ℕ)) (d : List ℕ) (e : Refusal) → o ≡ refused (number_of e) → IntoOutput o d d (Err e)
refused-up o d e h = record { answer = sym (ap counted h); buffer = sym (ap (λ o. output_after o d) h) }

pub into_same : (o p : Outcome (List ℕ)) (d₀ d : List ℕ) (r : Result ℕ Refusal) → o ≡ p → IntoOutput o d₀ d r → IntoOutput p d₀ d r
into_same o p d₀ d r e h = subst (λ o. IntoOutput o d₀ d r) e h

-- a frame that is written
pub written-refused : (x : Frame) (room : ℕ) → fields_good if1 x ≡ false → frame_written x room ≡ refused 6
written-refused x room w = rw w

pub written_short : (x : Frame) (room n : ℕ) → fields_good if1 x ≡ true → n ≡ octets if1 x.type → room < n → frame_written x room ≡ refused 10
written_short x room n g e h = rw (g, ← e, lt-leb n room h)

written-whole : (x : Frame) (room n : ℕ) → fields_good if1 x ≡ true → n ≡ octets if1 x.type → n ≤ room → frame_written x room ≡ ok (layout if1 x)
written-whole x room n g e h = rw (g, ← e, le-leb n room h)

pub written_into : (x : Frame) (d₀ d : List ℕ) (n : ℕ) → fields_good if1 x ≡ true → known x.type ≡ true → length x.core ≡ core_bits x.type
    → n ≡ octets if1 x.type → n ≤ length d₀ → d ≡ layout if1 x ++ drop (octets if1 x.type) d₀ → IntoOutput (frame_written x (length d₀)) d₀ d (Ok n)
written_into x d₀ d n g k size e h put =
    let o = written-whole x (length d₀) n g e h in
    let l = size-layout if1 x k size in
    record {
      answer = ap ok (e ∙ sym l) ∙ sym (ap counted o);
      buffer = put ∙ ap (λ m. layout if1 x ++ drop m d₀) (sym l) ∙ sym (ap (λ o. output_after o d₀) o);
    }

-- of a combination that has a core
module _ (request fqc : ℕ) {c : Combination} {s₁ s₂ s₃ : List ℕ} (h : HasCore c s₁ s₂ s₃) where
  pub type_known : known c.frame_type ≡ true
  type_known = (combination-good c h.good).type_known

  pub core_long : length (joined c s₁ s₂ s₃) ≡ core_bits c.frame_type
  core_long = length-joined c s₁ s₂ s₃ h.flows ∙ (combination-good c h.good).sum

  pub octets_if1 : (m : ℕ) → m ≡ core_octets c.frame_type → (3 + m ≡ octets if1 c.frame_type) × (m ≤ 60)
  octets_if1 m e =
      let t = c.frame_type in
      (omega (arith, (sized if1 t type_known).packed, (modes_carried if1 t type_known (le-leb t 9 h.type)).0), omega (arith, core-most t type_known))

  -- the packed core in front of the buffer
  pub front_packed : (k r : List ℕ) (m : ℕ) → k ≡ pack (joined c s₁ s₂ s₃) ++ r → m ≡ core_octets c.frame_type → take m k ≡ pack (joined c s₁ s₂ s₃)
  front_packed k r m e i = core_front (joined c s₁ s₂ s₃) k r m e (i ∙ ap octets_for (sym core_long))

  -- the frame by its fields
  pub frame_is : (t q i r : ℕ) (core : List Bool) → t ≡ c.frame_type → q ≡ cond (eqb fqc 0) 1 0 → i ≡ cond (leb c.frame_type 8) c.frame_type 0
      → r ≡ request → core ≡ joined c s₁ s₂ s₃ → frame_by t q i r core ≡ up_frame request fqc c s₁ s₂ s₃
  frame_is t q i r core et eq ei er e =
      frame_path _ _ et eq ei (er ∙ sym (ap (λ b. cond b request 0) (le-leb c.frame_type 9 h.type))) e

  pub buffer-core : (k : List ℕ) (t : ℕ) → t ≡ c.frame_type → k ≡ pack (joined c s₁ s₂ s₃) → buffer_core k t ≡ joined c s₁ s₂ s₃
  buffer-core k t et e =
      ap₂ (λ t k. take (core_bits t) (bits k)) et e ∙ ap (λ n. take n (bits (pack (joined c s₁ s₂ s₃)))) (sym core_long) ∙ (bits-core (joined c s₁ s₂ s₃)).0

  pub run_core : (k r : List ℕ) → k ≡ pack (joined c s₁ s₂ s₃) ++ r → take (core_bits c.frame_type) (bits k) ≡ joined c s₁ s₂ s₃
  run_core k r e = ap₂ (λ n k. take n (bits k)) (sym core_long) e ∙ take_packed (joined c s₁ s₂ s₃) r

  pub modes_low : fields_good if1 (up_frame request fqc c s₁ s₂ s₃) ≡ true → (cond (leb c.frame_type 8) c.frame_type 0 ≤ 8) × (request ≤ 8)
  modes_low g =
      let m = modes_fit if1 (up_frame request fqc c s₁ s₂ s₃) g in
      (m.0, subst (λ b. cond b request 0 ≤ 8) (le-leb c.frame_type 9 h.type) m.1)

  pub writable : (q i : ℕ) (k d : List ℕ) (n : ℕ) → q < 2 → i ≡ cond (leb c.frame_type 8) c.frame_type 0
      → fields_good if1 (up_frame request fqc c s₁ s₂ s₃) ≡ true → length k ≡ 60 → n ≡ octets if1 c.frame_type → n ≤ length d
      → Writable if1 (record { frame_type = c.frame_type; quality = q; indication = i; request = request }) k 0 d
  writable q i k d n hq ei g lk en l =
      let m = modes_low g in
      let most = core-most c.frame_type type_known in
      record {
        type_known = type_known;
        quality_bit = hq;
        indication_bits = omega (arith, m.0);
        request_bits = omega (arith, m.1);
        core_there = omega arith;
        core_near = omega arith;
        room = omega arith;
      }

-- what was judged to have no core is built
pub none-built : (l : Link) (n rfci : ℕ) (s₁ s₂ s₃ : List ℕ) (room p q : ℕ) → p ≡ q → (q ≡ cond (eqb n 0) 1 0) × (q < 2)
    → (j : Result (Option Combination) Refusal) → j ≡ Ok None → Judges l n rfci s₁ s₂ s₃ j → build_frame if1 15 p 0 0 [] room ≡ up_call l n rfci s₁ s₂ s₃ room
none-built l n rfci s₁ s₂ s₃ room p q same of j none judged =
    ap (λ p. build_frame if1 15 p 0 0 [] room) same ∙ build-empty q room of.1 ∙ ap (λ q. frame_written (frame_by 15 q 0 0 []) room) of.0
    ∙ sym (ap (λ j. writes l.request n s₁ s₂ s₃ j room) none) ∙ judged.call room
