-- A report counts the frames that the recording's reader shows, and is refused as the reader is. Its classes add up to its frames: each frame
-- has exactly one of the four, by induction over the frames. Assumes nothing.
use mathlib.Core.Path.{◌≡◌, refl, sym, ap, ◌∙◌, subst}
use mathlib.Core.List.{List, [], ◌∷◌}
use Prim.Native.Nat.{ℕ, ◌+◌, ◌<◌, ◌≤◌}
use native.Mathlib.Omega.{arith}
use lib.Dec.{leb}
use lib.ListN.{length}
use borrow.Author.Tests.{le-leb, lt-leb}
use Rattle.bits.specs.Bits.{one_if}
use Rattle.definitions.specs.Frames.{storage, Frame}
use Rattle.definitions.specs.Reception.{Reception, speech, sid, speech_lost, no_data, frame_class}
use Rattle.recordings.specs.Placed.{Placed, refused_at, done, unless_at, and_then_at}
use Rattle.recordings.specs.Recordings.{read_recording}
use Rattle.recordings.specs.Report.{Report, report_limit, is_speech, is_sid, is_speech_lost, is_no_data, how_many, report_of, report_call}
use Rattle.recordings.specs.ReportClaims.{AddsUp, Reports}
use Rattle.recordings.proofs.Scan.{not_done, not_refused}
use Rattle.recordings.proofs.Claims.{unless-done, reads_recordings}

one_class : (c : Reception) → one_if (is_speech c) + one_if (is_sid c) + one_if (is_speech_lost c) + one_if (is_no_data c) ≡ 1
one_class (speech c) = refl
one_class (sid c) = refl
one_class speech_lost = refl
one_class no_data = refl

classes_sum : (xs : List Frame) → how_many is_speech xs + how_many is_sid xs + how_many is_speech_lost xs + how_many is_no_data xs ≡ length xs
classes_sum [] = refl
classes_sum (x ∷ xs) = omega (arith, one_class (frame_class x), classes_sum xs)

frames-sum : (n : ℕ) (w : Placed (List Frame)) (r : Report) → and_then_at w (λ xs. done (report_of n xs)) ≡ done r
    → r.speech + r.sid + r.speech_lost + r.no_data ≡ r.frames
frames-sum n (refused_at m k at) r h = not_done m k at r h
frames-sum n (done xs) r h =
    subst (λ (q : Report). q.speech + q.sid + q.speech_lost + q.no_data ≡ q.frames) (let e : report_of n xs ≡ r = cc in e) (classes_sum xs)

pub adds_up : AddsUp report_call
unfolding report_call
adds_up = record {
  sum = λ s r h.
      let w = read_recording storage s in
      frames-sum (length s) w r (unless-done 9 (leb (length s) report_limit) (and_then_at w (λ xs. done (report_of (length s) xs))) r h).1;
}

-- ---- the report of an input within its limit

abbrev reported : ℕ → Placed (List Frame) → Placed Report
reported n w = and_then_at w (λ xs. done (report_of n xs))

within-report : (s : List ℕ) → length s ≤ report_limit → report_call s ≡ reported (length s) (read_recording storage s)
unfolding report_call
within-report s l = ap (λ b. unless_at 9 b (reported (length s) (read_recording storage s))) (le-leb (length s) report_limit l)

report-longer : (s : List ℕ) → report_limit < length s → report_call s ≡ refused_at 9 0 0
unfolding report_call
report-longer s l = ap (λ b. unless_at 9 b (reported (length s) (read_recording storage s))) (lt-leb (length s) report_limit l)

reported-refused : (m : ℕ) (w : Placed (List Frame)) (n k at : ℕ) → reported m w ≡ refused_at n k at → w ≡ refused_at n k at
reported-refused m (refused_at i j p) n k at h = cc
reported-refused m (done xs) n k at h = not_refused n k at (report_of m xs) h

pub reports : Reports report_call
reports = record {
  counts = λ s xs o l r. within-report s l ∙ ap (reported (length s)) ((reads_recordings.exactly storage s xs o).1 r);
  longer = report-longer;
  refuses = λ s n k at o l. (
    λ h. (reads_recordings.refuses storage s n k at o).0
        (reported-refused (length s) (read_recording storage s) n k at (sym (within-report s l) ∙ h)),
    λ r. within-report s l ∙ ap (reported (length s)) ((reads_recordings.refuses storage s n k at o).1 r),
  );
}
