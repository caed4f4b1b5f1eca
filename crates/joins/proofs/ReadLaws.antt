-- Two recordings read one behind the other: what `read_all` answers of each says whether it is refused, or how many frames it has. Assumes nothing.
use mathlib.Core.Path.{◌≡◌, refl, sym, ap, ap₂, ◌∙◌}
use mathlib.Core.List.{List}
use Prim.Native.Nat.{ℕ}
use lib.ListN.{length}
use Rattle.std.specs.Prelude.{Result, Ok, Err}
use Rattle.definitions.specs.Outcome.{ok}
use Rattle.definitions.specs.Frames.{Format, Frame}
use Rattle.definitions.specs.Reading.{format_numbered}
use Rattle.recordings.specs.Placed.{Placed, refused_at, done, placed}
use Rattle.recordings.specs.Recordings.{read_recording}
use Rattle.recordings.specs.Conversion.{converted}
use Rattle.recordings.specs.ConversionClaims.{ValidRecording}
use Rattle.recordings.proofs.Scan.{not_done, not_refused}
use Rattle.frame.specs.Answers.{number_of}
use Rattle.recording_reader.specs.Answers.{counts_of}
use Rattle.recording_reader.specs.declared.Counts.{Counts}
use Rattle.recording_reader.specs.declared.RefusedAt.{RefusedAt}
use Rattle.recording_reader.proofs.ScanLaws.{total}
use Rattle.joins_spec.specs.Joined.{Joined, refused_in, made, in_recording}
use Rattle.joins.specs.Answers.{both_read}

-- ---- one recording

-- s is valid, and has k frames
pub record ReadAs (f : Format) (s : List ℕ) (k : ℕ) : Type 0 where
  pub xs : List Frame
  pub read : ValidRecording f s xs
  pub frames : k ≡ length xs

module _ (f : Format) (s : List ℕ) (r : Result Counts RefusedAt) (answer : counts_of r ≡ total f f 0 (read_recording f s)) where
  pub read-done : (c : Counts) → r ≡ Ok c → ReadAs f s c.frames
  read-done c e = go (read_recording f s) refl (sym (ap counts_of e) ∙ answer)
    where
      go : (w : Placed (List Frame)) → read_recording f s ≡ w → done (c.frames, c.octets) ≡ total f f 0 w → ReadAs f s c.frames
      go (refused_at n j p) d q = not_done n j p _ (sym q)
      go (done xs) d q =
          let g : ◌≡◌ {A = ℕ × ℕ} (c.frames, c.octets) (length xs, length (converted f f 0 xs)) = cc in
          record { xs = xs; read = d; frames = ap (λ (y : ℕ × ℕ). y.0) g }

  pub read-refused : (e : RefusedAt) → r ≡ Err e → read_recording f s ≡ refused_at (number_of e.refusal) e.frame e.octet
  read-refused e d = go (read_recording f s) (sym (ap counts_of d) ∙ answer)
    where
      go : (w : Placed (List Frame)) → refused_at (number_of e.refusal) e.frame e.octet ≡ total f f 0 w → w ≡ refused_at (number_of e.refusal) e.frame e.octet
      go (refused_at m j p) q =
          let x : m ≡ number_of e.refusal = cc in
          let y : j ≡ e.frame = cc in
          let z : p ≡ e.octet = cc in
          λ i. refused_at (x i) (y i) (z i)
      go (done xs) q = not_refused _ e.frame e.octet _ (sym q)

-- ---- both

abbrev pub both_are : Placed Format → (Format → Placed (List Frame)) → (Format → Placed (List Frame)) → Joined (Format × ℕ × ℕ)
both_are o v w = in_recording 0 o (λ f. in_recording 0 (v f) (λ xs. in_recording 1 (w f) (λ ys. made (f, length xs, length ys))))

module _ (format : ℕ) (a b : List ℕ) (f : Format) (known : format_numbered format ≡ ok f) where
  of_format : both_read format a b ≡ in_recording 0 (read_recording f a) (λ xs. in_recording 1 (read_recording f b) (λ ys. made (f, length xs, length ys)))
  of_format = ap (λ o. both_are (placed o 0 0 done) (λ f. read_recording f a) (λ f. read_recording f b)) known

  pub both-first : (n k at : ℕ) → read_recording f a ≡ refused_at n k at → refused_in 0 n k at ≡ both_read format a b
  both-first n k at h = sym (of_format ∙ ap (λ w. in_recording 0 w (λ xs. in_recording 1 (read_recording f b) (λ ys. made (f, length xs, length ys)))) h)

  pub both-second : (j n k at : ℕ) → ReadAs f a j → read_recording f b ≡ refused_at n k at → refused_in 1 n k at ≡ both_read format a b
  both-second j n k at r h =
      sym (of_format ∙ ap₂ (λ v w. in_recording 0 v (λ xs. in_recording 1 w (λ ys. made (f, length xs, length ys)))) r.read h)

  pub both-made : (k j : ℕ) → ReadAs f a k → ReadAs f b j → made (f, k, j) ≡ both_read format a b
  both-made k j r q =
      ap₂ (λ m n. made (f, m, n)) r.frames q.frames
      ∙ sym (of_format ∙ ap₂ (λ v w. in_recording 0 v (λ xs. in_recording 1 w (λ ys. made (f, length xs, length ys)))) r.read q.read)
