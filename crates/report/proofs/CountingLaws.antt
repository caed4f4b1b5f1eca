-- A report grows a frame at a time: what is counted and what is still to come make the answer, and a frame goes from the one to the other.
-- Assumes nothing.
use mathlib.Core.Path.{◌≡◌, refl, sym, ap, ap₂, ◌∙◌, subst}
use mathlib.Core.Bool.{Bool, true, false, cond}
use mathlib.Core.List.{List}
use Prim.Native.Nat.{ℕ, suc, ◌+◌, ◌<◌, ◌≤◌}
use native.Mathlib.Omega.{arith}
use lib.Dec.{eqb, leb}
use lib.ListN.{length, drop, get_or, length-drop}
use lib.Seq.{drop-drop}
use Rattle.bits.specs.Bits.{Octets}
use Rattle.bits.proofs.BitLaws.{one_if-most, octets-drop}
use Rattle.definitions.specs.Outcome.{refused, ok}
use Rattle.definitions.specs.Frames.{storage, Frame}
use Rattle.definitions.specs.Reading.{read_frame}
use Rattle.definitions.specs.Reception.{Reception, SidClass, sid, sid_class, class_of, frame_class}
use Rattle.definitions.proofs.Frames.{read_known}
use Rattle.recordings.specs.Placed.{Placed, refused_at, done, and_then_at}
use Rattle.recordings.specs.Recordings.{followed_by, scan, scan_frames}
use Rattle.recordings.specs.Report.{Report, is_speech, is_sid, is_speech_lost, is_no_data, how_many, report_of}
use Rattle.recordings.proofs.Scan.{shown-size, scan_step, scan_stop}
use Rattle.report.specs.Counting.{one_more, AtMost}

-- ---- one frame

-- STI changes no count
pub any_sti : (r : Report) (t : ℕ) (good a b : Bool) → one_more r (class_of t good a) ≡ one_more r (class_of t good b)
any_sti r t good a b = go (leb t 8) (eqb t 9) _ _ (sid_class good a) (sid_class good b)
  where
    go : (p q : Bool) (x y : Reception) (u v : SidClass) → one_more r (cond p x (cond q (sid u) y)) ≡ one_more r (cond p x (cond q (sid v) y))
    go true q x y u v = refl
    go false true x y u v = refl
    go false false x y u v = refl

pub at_most_more : (n m : ℕ) (r : Report) (c : Reception) → AtMost n r → n < m → AtMost m (one_more r c)
at_most_more n m r c h l = record {
  frames_fit = omega (arith, h.frames_fit);
  speech_fit = omega (arith, h.speech_fit, one_if-most (is_speech c));
  sid_fit = omega (arith, h.sid_fit, one_if-most (is_sid c));
  lost_fit = omega (arith, h.lost_fit, one_if-most (is_speech_lost c));
  none_fit = omega (arith, h.none_fit, one_if-most (is_no_data c));
}

-- ---- the scan

-- what is counted, with the frames that are still to come
abbrev more : Report → List Frame → Report
more r xs = record {
  octets = r.octets;
  frames = r.frames + length xs;
  speech = r.speech + how_many is_speech xs;
  sid = r.sid + how_many is_sid xs;
  speech_lost = r.speech_lost + how_many is_speech_lost xs;
  no_data = r.no_data + how_many is_no_data xs;
}

abbrev rest : Report → Placed (List Frame) → Placed Report
rest r w = and_then_at w (λ xs. done (more r xs))

abbrev pub whole : ℕ → Placed (List Frame) → Placed Report
whole n w = and_then_at w (λ xs. done (report_of n xs))

abbrev counts : (octets frames speech sid lost none : ℕ) → Report
counts n f a b c d = record { octets = n; frames = f; speech = a; sid = b; speech_lost = c; no_data = d }

pub same_counts : (n : ℕ) {f g a a' b b' c c' d d' : ℕ} → f ≡ g → a ≡ a' → b ≡ b' → c ≡ c' → d ≡ d' → counts n f a b c d ≡ counts n g a' b' c' d'
same_counts n p q r s t = cc

rest_before : (r : Report) (x : Frame) (w : Placed (List Frame)) → rest r (followed_by x w) ≡ rest (one_more r (frame_class x)) w
rest_before r x (refused_at m k at) = refl
rest_before r x (done xs) =
    ap done (same_counts r.octets (omega arith) (omega arith) (omega arith) (omega arith) (omega arith))

pub record Counted (s : List ℕ) (at : ℕ) (r : Report) : Type 0 where
  pub within : at ≤ length s
  pub fits : AtMost at r
  pub sums : whole (length s) (scan_frames storage s) ≡ rest r (scan storage 0 r.frames at (drop at s))

-- the frame at hand is counted, whatever is taken for its STI
pub counted_step : (s : List ℕ) (at : ℕ) (r : Report) (x : Frame) (n : ℕ) (sti : Bool) (q : Report) → Octets s → read_frame storage (drop at s) ≡ ok (x, n)
    → q ≡ one_more r (class_of x.type (eqb x.quality 1) sti) → Counted s at r → (1 ≤ n) × Counted s (at + n) q
counted_step s at r x n sti q o h e c =
    let d = drop at s in
    let one = shown-size storage d x n (octets-drop at s o) h in
    let kn = read_known false storage d x n h in
    let l = length-drop at s in (
      one,
      subst (Counted s (at + n)) (any_sti r x.type (eqb x.quality 1) (get_or x.core 35 false) sti ∙ sym e) (record {
        within = omega (arith, kn.1, kn.2, c.within);
        fits = at_most_more at (at + n) r (frame_class x) c.fits (omega arith);
        sums = c.sums
            ∙ ap (rest r) (scan_step storage r.frames at d x n h one)
            ∙ rest_before r x (scan storage 0 (suc r.frames) (at + n) (drop n d))
            ∙ ap₂ (λ j l. rest (one_more r (frame_class x)) (scan storage 0 j (at + n) l)) (let p : suc r.frames ≡ r.frames + 1 = omega arith in p) (drop-drop n at s);
      }),
    )

pub counted_stop : (s : List ℕ) (at : ℕ) (r : Report) (n : ℕ) → at < length s → read_frame storage (drop at s) ≡ refused n → Counted s at r
    → refused_at n r.frames at ≡ whole (length s) (scan_frames storage s)
counted_stop s at r n l h c = sym (c.sums ∙ ap (rest r) (scan_stop storage r.frames at (drop at s) n (omega (arith, length-drop at s)) h))
