-- The call that makes one recording of two, for any way to combine their frames: it judges as the code does, and what is written behind the file
-- header makes the recording. Assumes nothing.
use mathlib.Core.Path.{◌≡◌, refl, sym, ap, ap₂, ◌∙◌}
use mathlib.Core.List.{List, ◌++◌, append_assoc, append-nil}
use Prim.Native.Nat.{ℕ, ◌+◌, ◌-◌, ◌≤◌, ◌<◌}
use native.Mathlib.Omega.{arith}
use lib.ListN.{length, take, drop, length-append, length-drop, drop_of_length-le}
use lib.Seq.{take_at, drop_at, drop-drop, take_all}
use Rattle.std.specs.Prelude.{Result}
use Rattle.bits.specs.Bits.{Octets}
use Rattle.definitions.specs.Outcome.{Outcome, refused, ok}
use Rattle.definitions.specs.Frames.{Format, Frame}
use Rattle.definitions.specs.Reading.{format_numbered, overwritten}
use Rattle.recordings.specs.Placed.{Placed, refused_at, done, placed}
use Rattle.recordings.specs.Recordings.{limit, file_header, read_recording, layouts, write_recording}
use Rattle.recordings.specs.ConversionClaims.{ValidRecording}
use Rattle.recording_reader.specs.declared.Counts.{Counts}
use Rattle.joins_spec.specs.Joined.{Joined, refused_in, made, in_recording, counted_in, joined_after}
use Rattle.joins_spec.specs.Joining.{written_into, join_call}
use Rattle.joins_spec.proofs.Joining.{not_made, whole, written-long, written-short, written-done}
use Rattle.joins.specs.declared.RefusedIn.{RefusedIn}
use Rattle.joins.specs.Answers.{joined_counts, IntoJoined, put_at, Body, both_read}
use Rattle.joins.proofs.ReadLaws.{ReadAs, both_are}

-- ---- a valid recording behind its file header

pub record Parts (f : Format) (s : List ℕ) (xs : List Frame) (h : ℕ) : Type 0 where
  pub header : take h s ≡ file_header f
  pub long : h ≤ length s
  pub body : Body f (drop h s) xs

pub parts : (f : Format) (s : List ℕ) (xs : List Frame) (h : ℕ) → Octets s → ValidRecording f s xs → h ≡ length (file_header f) → Parts f s xs h
unfolding write_recording
parts f s xs h o v e =
    let r = whole f s xs o v in
    record {
      header = ap₂ take e r.laid ∙ take_at (file_header f) (layouts f xs) _ refl;
      long = omega (arith, e, ap length r.laid, length-append (file_header f) (layouts f xs));
      body = record { valid = r.valid; laid = ap₂ drop e r.laid ∙ drop_at (file_header f) (layouts f xs) _ refl };
    }

-- ---- a recording written behind its file header

pub recording_size : (f : Format) (zs : List Frame) (h n : ℕ) → h ≡ length (file_header f) → n ≡ length (layouts f zs) → h + n ≡ length (write_recording f zs)
unfolding write_recording
recording_size f zs h n e g = omega (arith, e, g, length-append (file_header f) (layouts f zs))

-- d is the buffer with the header put, and s goes into what is behind it
written-behind : (w s : List ℕ) (h : ℕ) (d₀ d : List ℕ) → h ≡ length w → d ≡ put_at w 0 d₀ → h + length s ≤ length d₀
    → take h d ++ (overwritten s (take (length d - h) (drop h d)) ++ drop (length d - h) (drop h d)) ≡ overwritten (w ++ s) d₀
written-behind w s h d₀ d e p l =
    let r = drop h d₀ in
    let g : d ≡ overwritten w d₀ = p ∙ ap (λ n. w ++ drop n d₀) (let z : 0 + length w ≡ length w = omega arith in z) in
    let t : take h d ≡ w = ap (take h) g ∙ take_at w (drop (length w) d₀) h (sym e) in
    let b : drop h d ≡ r = ap (drop h) g ∙ drop_at w (drop (length w) d₀) h (sym e) ∙ ap (λ n. drop n d₀) (sym e) in
    let n : length d ≡ length d₀ = ap length g ∙ omega (arith, length-append w (drop (length w) d₀), length-drop (length w) d₀, e, l) in
    let k : length r ≡ length d - h = omega (arith, length-drop h d₀, n) in
    let c : overwritten s (take (length d - h) (drop h d)) ++ drop (length d - h) (drop h d) ≡ overwritten s r =
    ap (λ x. overwritten s (take (length d - h) x) ++ drop (length d - h) x) b
    ∙ ap₂ (λ x y. overwritten s x ++ y) (take_all (length d - h) r (omega (arith, k))) (drop_of_length-le r {i = length d - h} (omega (arith, k)))
    ∙ append-nil (overwritten s r) in
    let j : drop (length s) r ≡ drop (length (w ++ s)) d₀ = drop-drop (length s) h d₀ ∙ ap (λ n. drop n d₀) (omega (arith, e, length-append w s)) in
    ap₂ ◌++◌ t (c ∙ ap (λ x. s ++ x) j) ∙ sym (append_assoc w s (drop (length (w ++ s)) d₀))

pub recording-written : (f : Format) (zs : List Frame) (h : ℕ) (w d₀ d q : List ℕ) → h ≡ length (file_header f) → w ≡ file_header f → d ≡ put_at w 0 d₀
    → h + length (layouts f zs) ≤ length d₀ → q ≡ overwritten (layouts f zs) (take (length d - h) (drop h d))
    → take h d ++ (q ++ drop (length d - h) (drop h d)) ≡ overwritten (write_recording f zs) d₀
unfolding write_recording
recording-written f zs h w d₀ d q e x g l y =
    ap (λ q. take h d ++ (q ++ drop (length d - h) (drop h d))) y
    ∙ written-behind (file_header f) (layouts f zs) h d₀ d e (g ∙ ap (λ w. put_at w 0 d₀) x) l

-- ---- both were read

pub record BothRead (format : ℕ) (a b : List ℕ) (f : Format) (k j : ℕ) : Type 0 where
  pub known : format_numbered format ≡ ok f
  pub first : ReadAs f a k
  pub second : ReadAs f b j

pub both_is : (format : ℕ) (a b : List ℕ) (f : Format) (k j : ℕ) → made (f, k, j) ≡ both_read format a b → BothRead format a b f k j
both_is format a b f k j h = go (format_numbered format) refl h
  where
    read : (g : Format) → format_numbered format ≡ ok g → (v w : Placed (List Frame)) → read_recording g a ≡ v → read_recording g b ≡ w
        → ◌≡◌ {A = Joined (Format × ℕ × ℕ)} (made (f, k, j)) (in_recording 0 v (λ xs. in_recording 1 w (λ ys. made (g, length xs, length ys))))
        → BothRead format a b f k j
    read g p (refused_at n i at) w e d q = not_made 0 n i at _ q
    read g p (done xs) (refused_at n i at) e d q = not_made 1 n i at _ q
    read g p (done xs) (done ys) e d q =
        let c : ◌≡◌ {A = Format × ℕ × ℕ} (g, length xs, length ys) (f, k, j) = cc in
        let t : g ≡ f = ap (λ (y : Format × ℕ × ℕ). y.0) c in
        record {
          known = p ∙ ap ok t;
          first = record { xs = xs; read = ap (λ g. read_recording g a) (sym t) ∙ e; frames = sym (ap (λ (y : Format × ℕ × ℕ). y.1) c) };
          second = record { xs = ys; read = ap (λ g. read_recording g b) (sym t) ∙ d; frames = sym (ap (λ (y : Format × ℕ × ℕ). y.2) c) };
        }

    go : (o : Outcome Format) → format_numbered format ≡ o
        → ◌≡◌ {A = Joined (Format × ℕ × ℕ)} (made (f, k, j)) (both_are (placed o 0 0 done) (λ f. read_recording f a) (λ f. read_recording f b))
        → BothRead format a b f k j
    go (refused n) e q = not_made 0 n 0 0 _ q
    go (ok g) e q = read g e (read_recording g a) (read_recording g b) refl refl q

-- ---- the call

-- a refused call leaves the buffer
pub into_refused : (o : Joined (ℕ × List ℕ)) (d : List ℕ) (r : Result Counts RefusedIn) (i n k at : ℕ) → o ≡ refused_in i n k at
    → joined_counts r ≡ refused_in i n k at → IntoJoined o d d r
into_refused o d r i n k at e h = record { answer = h ∙ ap counted_in (sym e); buffer = ap (λ o. joined_after o d) (sym e) }

module _ (combine : List Frame → List Frame → List Frame) (format : ℕ) (a b d : List ℕ) where
  abbrev goes_on : Placed Format → (Format → Placed (List Frame)) → (Format → Placed (List Frame)) → Joined (ℕ × List ℕ)
  goes_on o v w =
      in_recording 0 o
      (λ f. in_recording 0 (v f) (λ xs. in_recording 1 (w f) (λ ys. in_recording 0 (written_into f (combine xs ys) (length d)) made)))

  -- what `read_both` refuses
  pub call_refused : (r : Result Counts RefusedIn) (i n k at : ℕ) → joined_counts r ≡ refused_in i n k at → refused_in i n k at ≡ both_read format a b
      → IntoJoined (join_call combine format a b (length d)) d d r
  unfolding join_call
  call_refused r i n k at h e = into_refused _ d r i n k at (format_said (placed (format_numbered format) 0 0 done) e) h
    where
      same : (i' n' k' at' : ℕ) → ◌≡◌ {A = Joined (Format × ℕ × ℕ)} (refused_in i n k at) (refused_in i' n' k' at')
          → ◌≡◌ {A = Joined (ℕ × List ℕ)} (refused_in i' n' k' at') (refused_in i n k at)
      same i' n' k' at' q =
          let x : i' ≡ i = cc in
          let y : n' ≡ n = cc in
          let z : k' ≡ k = cc in
          let w : at' ≡ at = cc in
          λ p. refused_in (x p) (y p) (z p) (w p)

      read_said : (f : Format) (v w : Placed (List Frame))
          → ◌≡◌ {A = Joined (Format × ℕ × ℕ)} (refused_in i n k at) (in_recording 0 v (λ xs. in_recording 1 w (λ ys. made (f, length xs, length ys))))
          → in_recording 0 v (λ xs. in_recording 1 w (λ ys. in_recording 0 (written_into f (combine xs ys) (length d)) made)) ≡ refused_in i n k at
      read_said f (refused_at n' k' at') w q = same 0 n' k' at' q
      read_said f (done xs) (refused_at n' k' at') q = same 1 n' k' at' q
      read_said f (done xs) (done ys) q = not_made i n k at _ (sym q)

      format_said : (o : Placed Format) → refused_in i n k at ≡ both_are o (λ f. read_recording f a) (λ f. read_recording f b)
          → goes_on o (λ f. read_recording f a) (λ f. read_recording f b) ≡ refused_in i n k at
      format_said (refused_at n' k' at') q = same 0 n' k' at' q
      format_said (done f) q = read_said f (read_recording f a) (read_recording f b) q

  -- both are valid
  module _ (f : Format) (k j : ℕ) (p : BothRead format a b f k j) where
    abbrev zs : List Frame
    zs = combine p.first.xs p.second.xs

    call_both : join_call combine format a b (length d) ≡ in_recording 0 (written_into f zs (length d)) made
    unfolding join_call
    call_both = rw (p.known, p.first.read, p.second.read)

    pub call_long : (r : Result Counts RefusedIn) → limit < length (write_recording f zs) → joined_counts r ≡ refused_in 0 9 0 0
        → IntoJoined (join_call combine format a b (length d)) d d r
    call_long r l h = into_refused _ d r 0 9 0 0 (call_both ∙ ap (λ w. in_recording 0 w made) (written-long f zs (length d) l)) h

    pub call_short : (r : Result Counts RefusedIn) → length (write_recording f zs) ≤ limit → length d < length (write_recording f zs)
        → joined_counts r ≡ refused_in 0 10 0 0 → IntoJoined (join_call combine format a b (length d)) d d r
    call_short r l s h = into_refused _ d r 0 10 0 0 (call_both ∙ ap (λ w. in_recording 0 w made) (written-short f zs (length d) l s)) h

    pub call_made : (r : Result Counts RefusedIn) (d' : List ℕ) (n m : ℕ) → length (write_recording f zs) ≤ limit → length (write_recording f zs) ≤ length d
        → n ≡ length zs → m ≡ length (write_recording f zs) → joined_counts r ≡ made (n, m) → d' ≡ overwritten (write_recording f zs) d
        → IntoJoined (join_call combine format a b (length d)) d d' r
    call_made r d' n m l s en em h e =
        let o = call_both ∙ ap (λ w. in_recording 0 w made) (written-done f zs (length d) l s) in
        record {
          answer = h ∙ ap₂ (λ i j. made (i, j)) en em ∙ ap counted_in (sym o);
          buffer = e ∙ ap (λ o. joined_after o d) (sym o);
        }
