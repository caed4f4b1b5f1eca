-- A refusal in front of the frames, whatever was to be read; and what was read, and its frames alone: a refusal stays, and so does the count of
-- frames. Assumes nothing.
use mathlib.Core.Path.{◌≡◌, sym, ap, ◌∙◌}
use mathlib.Core.Bool.{Bool, true, false}
use mathlib.Core.List.{List}
use Prim.Native.Nat.{ℕ}
use lib.ListN.{length}
use Rattle.std.specs.Prelude.{Result, Ok, Err}
use Rattle.definitions.specs.Frames.{Format, Frame}
use Rattle.recordings.specs.Placed.{Placed, refused_at, done, unless_at, and_then_at}
use Rattle.recordings.specs.Conversion.{converted}
use Rattle.recordings.proofs.Scan.{not_refused}
use Rattle.recording_reader.specs.Answers.{counts_of}
use Rattle.recording_reader.specs.declared.Counts.{Counts}
use Rattle.recording_reader.specs.declared.RefusedAt.{RefusedAt}
use Rattle.recording_reader.proofs.ScanLaws.{total}

pub front_refused : {A B : Type 0} (a b : Bool) (n k at : ℕ) (y : B) (next : Placed A) → refused_at n k at ≡ unless_at 9 a (unless_at 8 b (done y))
    → refused_at n k at ≡ unless_at 9 a (unless_at 8 b next)
front_refused false b n k at y next h = ap (λ o. and_then_at o (λ z. next)) h
front_refused true false n k at y next h = ap (λ o. and_then_at o (λ z. next)) h
front_refused true true n k at y next h = not_refused n k at y (sym h)

abbrev pub frames_only : Placed (List Frame) → Placed (ℕ × ℕ)
frames_only w = and_then_at w (λ xs. done (length xs, 0))

pub refused_frames : (f : Format) (w : Placed (List Frame)) (r : Result Counts RefusedAt) (e : RefusedAt) → r ≡ Err e → counts_of r ≡ total f f 0 w
    → counts_of r ≡ frames_only w
refused_frames f (refused_at n k at) r e i h = h
refused_frames f (done xs) r e i h = cc (ap counts_of i)

pub counted_frames : (f : Format) (w : Placed (List Frame)) (r : Result Counts RefusedAt) (c : Counts) → r ≡ Ok c → counts_of r ≡ total f f 0 w
    → done (c.frames, 0) ≡ frames_only w
counted_frames f (refused_at n k at) r c i h = cc (ap counts_of i)
counted_frames f (done xs) r c i h =
    let e : ◌≡◌ {A = Placed (ℕ × ℕ)} (done (c.frames, c.octets)) (done (length xs, length (converted f f 0 xs))) = sym (ap counts_of i) ∙ h in
    let q : ◌≡◌ {A = ℕ × ℕ} (c.frames, c.octets) (length xs, length (converted f f 0 xs)) = cc in
    ap (λ j. done (j, 0)) (ap (λ (y : ℕ × ℕ). y.0) q)
