-- The reader of recordings, from the scan's laws and the tests in front of it. Assumes nothing.
use mathlib.Core.Path.{◌≡◌, refl, sym, ap, ap₂, ◌∙◌, subst}
use mathlib.Core.Bool.{Bool, true, false}
use mathlib.Core.Logic.{◌≢◌}
use mathlib.Core.List.{List, [], ◌∷◌, ◌++◌, append_assoc}
use Prim.Native.Nat.{ℕ, ◌≤◌}
use native.Mathlib.Omega.{arith}
use lib.Dec.{eqb, leb}
use lib.ListN.{length, take, drop, length-append, length-drop, take-append-drop}
use lib.Seq.{take_at, drop_at}
use borrow.Author.Tests.{leb-true, leb-false, le-leb, lt-leb, eqb-true, eq-eqb}
use Rattle.bits.specs.Bits.{Octets}
use Rattle.bits.proofs.BitLaws.{octets-drop}
use Rattle.std.proofs.lemmas.Bool.{and_from}
use Rattle.bits.proofs.Tests.{and_left, and_right}
use Rattle.definitions.specs.Outcome.{refused}
use Rattle.definitions.specs.Frames.{Format, Frame}
use Rattle.definitions.specs.Reading.{read_frame}
use Rattle.recordings.specs.Placed.{Placed, refused_at, done, unless_at}
use Rattle.recordings.specs.Recordings.{limit, file_header, same_octets, headed, scan, scan_frames, judged_front, read_recording, layouts, write_recording}
use Rattle.recordings.specs.Claims.{IsRecording, StopsAt, FrontRefusal, too_long, other_header, RecordingRefusal, in_front, stops_at, RecordingReader, ReadsRecordings, ReadersAgree}
use Rattle.recordings.proofs.Scan.{not_done, layouts-scan, layouts-stop, scan-layouts, scan-stops}

-- ---- the file header

pub same-octets : (a b : List ℕ) → same_octets a b ≡ true → a ≡ b
same-octets [] [] h = refl
same-octets [] (y ∷ b) h = absurd (let z : ◌≡◌ {A = ℕ} 0 1 = cc in omega arith)
same-octets (x ∷ a) [] h = absurd (let z : ◌≡◌ {A = ℕ} 0 1 = cc in omega arith)
same-octets (x ∷ a) (y ∷ b) h = ap₂ ◌∷◌ (eqb-true x y (and_left _ _ h)) (same-octets a b (and_right (eqb x y) _ h))

pub octets-same : (a b : List ℕ) → a ≡ b → same_octets a b ≡ true
octets-same a b e = subst (λ c. same_octets a c ≡ true) e (reflexive a)
  where
    reflexive : (l : List ℕ) → same_octets l l ≡ true
    reflexive [] = refl
    reflexive (x ∷ l) = and_from _ _ (eq-eqb x x refl) (reflexive l)

-- ---- a test that a value passes

pub unless-done : {A : Type 0} (n : ℕ) (b : Bool) (w : Placed A) (a : A) → unless_at n b w ≡ done a → (b ≡ true) × (w ≡ done a)
unless-done n true w a h = (refl, h)
unless-done n false w a h = not_done n 0 0 a h

-- ---- the tests in front of the frames

headed-false : (f : Format) (s : List ℕ) → headed f s ≡ false → take (length (file_header f)) s ≢ file_header f
headed-false f s e h = let t = octets-same _ _ h in let z : ◌≡◌ {A = ℕ} 0 1 = cc in omega arith

not-headed : (f : Format) (s : List ℕ) → take (length (file_header f)) s ≢ file_header f → headed f s ≡ false
not-headed f s h = go (headed f s) refl
  where
    go : (b : Bool) → headed f s ≡ b → b ≡ false
    go false e = refl
    go true e = absurd (h (same-octets _ _ e))

pub front_refuses : {A : Type 0} (f : Format) (s : List ℕ) (next : Placed A) (n : ℕ) → FrontRefusal f s n → judged_front f s next ≡ refused_at n 0 0
front_refuses f s next n (too_long l) = ap (λ a. unless_at 9 a (unless_at 8 (headed f s) next)) (lt-leb (length s) limit l)
front_refuses f s next n (other_header l h) = ap₂ (λ a b. unless_at 9 a (unless_at 8 b next)) (le-leb (length s) limit l) (not-headed f s h)

pub front_passes : {A : Type 0} (f : Format) (s : List ℕ) (next : Placed A) → length s ≤ limit → headed f s ≡ true → judged_front f s next ≡ next
front_passes f s next l h = ap₂ (λ a b. unless_at 9 a (unless_at 8 b next)) (le-leb (length s) limit l) h

-- what holds of each of their refusals, and of what comes next where they pass, holds of the answer
pub front_said : {A : Type 0} (f : Format) (s : List ℕ) (next : Placed A) (P : Placed A → Type 0)
    → ((n : ℕ) → FrontRefusal f s n → P (refused_at n 0 0)) → (length s ≤ limit → headed f s ≡ true → P next) → P (judged_front f s next)
front_said f s next P refuses passes = go (leb (length s) limit) refl (headed f s) refl
  where
    go : (a : Bool) → leb (length s) limit ≡ a → (b : Bool) → headed f s ≡ b → P (unless_at 9 a (unless_at 8 b next))
    go false ea b eb = refuses 9 (too_long (leb-false _ _ ea))
    go true ea false eb = refuses 8 (other_header (leb-true _ _ ea) (headed-false f s eb))
    go true ea true eb = passes (leb-true _ _ ea) eb

-- ---- whole recordings

shown : (f : Format) (s : List ℕ) (xs : List Frame) → Octets s → length s ≤ limit → headed f s ≡ true → scan_frames f s ≡ done xs → IsRecording f s xs
unfolding write_recording
shown f s xs o l h e =
    let n = length (file_header f) in
    let c = scan-layouts f 0 0 n (drop n s) xs (octets-drop n s o) e in
    record { valid = c.valid; laid = sym (ap₂ ◌++◌ (sym (same-octets (take n s) (file_header f) h)) c.laid ∙ take-append-drop n s); within = l }

recording_read : (f : Format) (xs : List Frame) → IsRecording f (write_recording f xs) xs → read_recording f (write_recording f xs) ≡ done xs
unfolding read_recording write_recording
recording_read f xs r =
    let n = length (file_header f) in
    let s = file_header f ++ layouts f xs in
    let t : take n (file_header f ++ layouts f xs) ≡ file_header f = take_at (file_header f) (layouts f xs) n refl in
    let d : drop n (file_header f ++ layouts f xs) ≡ layouts f xs = drop_at (file_header f) (layouts f xs) n refl in
    front_passes f s (scan_frames f s) r.within (octets-same _ _ t)
    ∙ ap (scan f 0 0 n) d
    ∙ layouts-scan f 0 n xs r.valid

is_read : (f : Format) (s : List ℕ) (xs : List Frame) → IsRecording f s xs → read_recording f s ≡ done xs
is_read f s xs r = ap (read_recording f) r.laid ∙ recording_read f xs (subst (λ z. IsRecording f z xs) r.laid r)

-- ---- where a recording stops

stops : (f : Format) (s : List ℕ) (n k at : ℕ) → Octets s → headed f s ≡ true → scan_frames f s ≡ refused_at n k at → StopsAt f s n k at
unfolding write_recording
stops f s n k at o b h =
    let m = length (file_header f) in
    let c = scan-stops f 0 0 m (drop m s) n k at (octets-drop m s o) h in
    let w = file_header f ++ layouts f c.xs in
    let p : length (file_header f ++ layouts f c.xs) ≡ at = omega (arith, length-append (file_header f) (layouts f c.xs), c.octet) in
    let e : (file_header f ++ layouts f c.xs) ++ c.rest ≡ s =
    append_assoc (file_header f) (layouts f c.xs) c.rest
    ∙ ap₂ ◌++◌ (sym (same-octets (take m s) (file_header f) b)) c.laid ∙ take-append-drop m s in
    record {
      xs = c.xs;
      valid = c.valid;
      number = omega (arith, c.number);
      laid = ap (take at) (sym e) ∙ take_at w c.rest at p;
      octet = p;
      left = omega (arith, c.left, ap length e, length-append (file_header f ++ layouts f c.xs) c.rest, p);
      refusal = subst (λ r. read_frame f r ≡ refused n) (sym (ap (drop at) (sym e) ∙ drop_at w c.rest at p)) c.refusal;
    }

-- its octets there, that its header is right, and what stands behind the header
stopped_octets : (f : Format) (s : List ℕ) (n k at : ℕ) (p : StopsAt f s n k at) → s ≡ file_header f ++ (layouts f p.xs ++ drop at s)
unfolding write_recording
stopped_octets f s n k at p =
    sym (take-append-drop at s) ∙ ap (λ l. l ++ drop at s) p.laid ∙ append_assoc (file_header f) (layouts f p.xs) (drop at s)

pub stopped_front : (f : Format) (s : List ℕ) (n k at : ℕ) → StopsAt f s n k at → headed f s ≡ true
stopped_front f s n k at p =
    octets-same _ _ (ap (take (length (file_header f))) (stopped_octets f s n k at p) ∙ take_at (file_header f) (layouts f p.xs ++ drop at s) _ refl)

pub stopped_behind : (f : Format) (s : List ℕ) (n k at : ℕ) (p : StopsAt f s n k at) → drop (length (file_header f)) s ≡ layouts f p.xs ++ drop at s
stopped_behind f s n k at p =
    ap (drop (length (file_header f))) (stopped_octets f s n k at p) ∙ drop_at (file_header f) (layouts f p.xs ++ drop at s) _ refl

stopped : (f : Format) (s : List ℕ) (n k at : ℕ) → length s ≤ limit → StopsAt f s n k at → read_recording f s ≡ refused_at n k at
unfolding read_recording write_recording
stopped f s n k at l p =
    let m = length (file_header f) in
    front_passes f s (scan_frames f s) l (stopped_front f s n k at p)
    ∙ ap (scan f 0 0 m) (stopped_behind f s n k at p)
    ∙ layouts-stop f 0 m p.xs (drop at s) n p.valid (omega (arith, length-drop at s, p.left)) p.refusal
    ∙ ap₂ (refused_at n) (omega (arith, p.number)) (omega (arith, p.octet, length-append (file_header f) (layouts f p.xs)))

-- ---- what the reader's answer says, whatever it is

abbrev Says : Format → List ℕ → Placed (List Frame) → Type 0
Says f s (refused_at n k at) = RecordingRefusal f s n k at
Says f s (done xs) = IsRecording f s xs

said : (f : Format) (s : List ℕ) → Octets s → Says f s (read_recording f s)
unfolding read_recording
said f s o = front_said f s (scan_frames f s) (Says f s) (λ n r. in_front r) (λ l h. go l h (scan_frames f s) refl)
  where
    go : length s ≤ limit → headed f s ≡ true → (w : Placed (List Frame)) → scan_frames f s ≡ w → Says f s w
    go l h (refused_at n k at) e = stops_at l (stops f s n k at o h e)
    go l h (done xs) e = shown f s xs o l h e

refused-read : (f : Format) (s : List ℕ) (n k at : ℕ) → RecordingRefusal f s n k at → read_recording f s ≡ refused_at n k at
unfolding read_recording
refused-read f s n k at (in_front r) = front_refuses f s (scan_frames f s) n r
refused-read f s n k at (stops_at l p) = stopped f s n k at l p

pub reads_recordings : ReadsRecordings read_recording
reads_recordings = record {
  exactly = λ f s xs o. (λ h. subst (Says f s) h (said f s o), is_read f s xs);
  unique = λ f s xs ys o r q. (let e : done xs ≡ done ys = sym (is_read f s xs r) ∙ is_read f s ys q in cc);
  refuses = λ f s n k at o. (λ h. subst (Says f s) h (said f s o), refused-read f s n k at);
}

pub readers_agree : ReadersAgree
readers_agree = record { same = λ read other r q f s o. go read other r q f s o (read f s) refl }
  where
    go : (read other : RecordingReader) → ReadsRecordings read → ReadsRecordings other → (f : Format) (s : List ℕ) → Octets s
        → (w : Placed (List Frame)) → read f s ≡ w → w ≡ other f s
    go read other r q f s o (refused_at n k at) e = sym ((q.refuses f s n k at o).1 ((r.refuses f s n k at o).0 e))
    go read other r q f s o (done xs) e = sym ((q.exactly f s xs o).1 ((r.exactly f s xs o).0 e))
