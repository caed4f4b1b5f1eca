-- A viewer goes through the frames as they are laid out, one a call, and then stays where it is: by induction over the frames and the
-- calls. Two such viewers answer the same, as each answer has its condition. Assumes nothing.
use mathlib.Core.Path.{◌≡◌, refl, sym, ap, ap₂, ◌∙◌, subst}
use mathlib.Core.Bool.{false}
use mathlib.Core.List.{List, [], ◌∷◌, ◌++◌, map, append-nil, append_assoc}
use Prim.Native.Nat.{ℕ, zero, suc, ◌+◌, ◌<◌, ◌≤◌}
use native.Mathlib.Omega.{arith}
use lib.ListN.{length, take, drop, replicate, length-replicate, length-append}
use lib.Seq.{take_at, drop_at, drop-drop, drop-length, take_all}
use Rattle.definitions.specs.Outcome.{refused, ok}
use Rattle.definitions.specs.Frames.{Format, if1, if2, storage, Frame, layout, octets}
use Rattle.definitions.specs.Reading.{read_frame, format_numbered, format_number}
use Rattle.definitions.specs.Claims.{Valid}
use Rattle.definitions.proofs.Tables.{sized}
use Rattle.definitions.proofs.Frames.{length-layout, read-layout}
use Rattle.recordings.specs.Placed.{Placed, refused_at, done}
use Rattle.recordings.specs.Recordings.{limit, file_header, layouts, write_recording}
use Rattle.recordings.specs.Claims.{Every, none, first, IsRecording, StopsAt}
use Rattle.recordings.specs.Viewer.{View, shows, end, open_call, next_call, moved}
use Rattle.recordings.specs.ViewerClaims.{Opener, Stepper, Handed, frame, the_end, refusal, handed, in_turn, Hands, NextRefusal, past_the_recording, number_above, frame_refused, ViewsRecordings, ViewersAgree}
use Rattle.recordings.proofs.Claims.{octets-same, stopped_front, stopped_behind}
use Rattle.recordings.proofs.Trips.{format_numbered_lem}
use Rattle.recordings.proofs.ViewCalls.{OpeningSays, NextSays, open_unknown, open_refused, open_first, open_said, next_unknown, next_past, next_above, next_end, next_frame, next_said}

-- ---- lists that end in one element again and again

take_repeat : {A : Type 0} (l : A) (m i j : ℕ) (front : List A) → m ≤ i → m ≤ j → take m (front ++ replicate i l) ≡ take m (front ++ replicate j l)
take_repeat l zero i j front p q = refl
take_repeat l (suc m) zero j [] p q = absurd (omega arith)
take_repeat l (suc m) (suc i) zero [] p q = absurd (omega arith)
take_repeat l (suc m) (suc i) (suc j) [] p q = ap (λ t. l ∷ t) (take_repeat l m i j [] (omega arith) (omega arith))
take_repeat l (suc m) i j (a ∷ front) p q = ap (λ t. a ∷ t) (take_repeat l m i j front (omega arith) (omega arith))

-- ---- many calls

abbrev next : Format → List ℕ → ℕ × ℕ → Placed View
next f s p = next_call (format_number f) p.1 p.0 s

-- a viewer that stays where it is hands out the same for ever
stays : (next : ℕ × ℕ → Placed View) (place : ℕ × ℕ) (last : Handed) → handed (next place) ≡ last → moved (next place) place ≡ place
    → (m : ℕ) → in_turn next m place ≡ replicate m last
stays next place last h e zero = refl
stays next place last h e (suc m) = ap₂ ◌∷◌ h (ap (in_turn next m) e ∙ stays next place last h e m)

-- frame k stands at octet `at`, and the frames xs lead to frame j at octet p, where the viewer stays
module _ (f : Format) (s : List ℕ) (last : Handed) (j p : ℕ) (within : p ≤ length s) (says : handed (next f s (j, p)) ≡ last)
    (still : moved (next f s (j, p)) (j, p) ≡ (j, p)) where
  goes : (xs : List Frame) (k at : ℕ) → Every (Valid f) xs → drop at s ≡ layouts f xs ++ drop p s → k + length xs ≡ j → at + length (layouts f xs) ≡ p → k ≤ at
      → (m : ℕ) → in_turn (next f s) m (k, at) ≡ take m (map frame xs ++ replicate m last)
  goes [] k at none e ek ep h m =
      let there : ◌≡◌ {A = ℕ × ℕ} (k, at) (j, p) = ap₂ (λ a b. (a, b)) (let q : k ≡ j = omega arith in q) (let q : at ≡ p = omega arith in q) in
      ap (in_turn (next f s) m) there
      ∙ stays (next f s) (j, p) last says still m ∙ sym (take_all m (replicate m last) (omega (arith, length-replicate m last)))
  goes (x ∷ xs) k at (first v vs) e ek ep h zero = refl
  goes (x ∷ xs) k at (first v vs) e ek ep h (suc m) =
      let n = octets f x.type in
      let one = (sized f x.type v.type_known).some-octet in
      let size = length-append (layout f x) (layouts f xs) in
      let long = length-layout f x v in
      let front : drop at s ≡ layout f x ++ (layouts f xs ++ drop p s) = e ∙ append_assoc (layout f x) (layouts f xs) (drop p s) in
      let r : read_frame f (drop at s) ≡ ok (x, n) = ap (read_frame f) front ∙ read-layout false f x (layouts f xs ++ drop p s) v refl in
      let w : next f s (k, at) ≡ done (shows x (suc k) (at + n)) = next_frame (format_number f) s f (format_numbered_lem f) k at (ok (x, n)) (omega (arith, size, long, one)) h r in
      let d : drop (at + n) s ≡ layouts f xs ++ drop p s =
      sym (drop-drop n at s) ∙ ap (drop n) front ∙ drop_at (layout f x) (layouts f xs ++ drop p s) n long in
      ap (λ w. handed w ∷ in_turn (next f s) m (moved w (k, at))) w
      ∙ ap (λ t. frame x ∷ t)
      (goes xs (suc k) (at + n) vs d (omega arith) (omega (arith, size, long)) (omega arith) m
      ∙ take_repeat last m m (suc m) (map frame xs) (omega arith) (omega arith))

-- each frame has an octet
few : (f : Format) (xs : List Frame) → Every (Valid f) xs → length xs ≤ length (layouts f xs)
few f [] none = omega arith
few f (x ∷ xs) (first v vs) =
    omega (arith, few f xs vs, length-append (layout f x) (layouts f xs), length-layout f x v, (sized f x.type v.type_known).some-octet)

-- ---- a valid recording

valid : (f : Format) (s : List ℕ) (xs : List Frame) → IsRecording f s xs → Hands open_call next_call f s xs the_end
unfolding write_recording
valid f s xs r =
    let n = length (file_header f) in
    let t : take n s ≡ file_header f = ap (take n) r.laid ∙ take_at (file_header f) (layouts f xs) n refl in
    let size : n + length (layouts f xs) ≡ length s = sym (length-append (file_header f) (layouts f xs)) ∙ sym (ap length r.laid) in
    let d : drop n s ≡ layouts f xs ++ drop (length s) s =
    ap (drop n) r.laid ∙ drop_at (file_header f) (layouts f xs) n refl
    ∙ sym (append-nil (layouts f xs)) ∙ ap (λ l. layouts f xs ++ l) (sym (drop-length s)) in
    let w = next_end (format_number f) s f (format_numbered_lem f) (length xs) (length s) refl (omega (arith, few f xs r.valid, size)) in
    record {
      place = (0, n);
      opens = open_first (format_number f) s f (format_numbered_lem f) r.within (octets-same _ _ t);
      hands = goes f s the_end (length xs) (length s) (omega arith) (ap handed w) (ap (λ w. moved w (length xs, length s)) w)
          xs 0 n r.valid d (omega arith) size (omega arith);
    }

-- ---- a recording that stops

stopped : (f : Format) (s : List ℕ) (n k at : ℕ) → length s ≤ limit → (p : StopsAt f s n k at) → Hands open_call next_call f s p.xs (refusal n k at)
unfolding write_recording
stopped f s n k at l p =
    let m = length (file_header f) in
    let size = length-append (file_header f) (layouts f p.xs) in
    let below : k ≤ at = omega (arith, few f p.xs p.valid, size, p.octet, p.number) in
    let w = next_frame (format_number f) s f (format_numbered_lem f) k at (refused n) p.left below p.refusal in
    record {
      place = (0, m);
      opens = open_first (format_number f) s f (format_numbered_lem f) l (stopped_front f s n k at p);
      hands = goes f s (refusal n k at) k at (omega (arith, p.left)) (ap handed w) (ap (λ w. moved w (k, at)) w)
          p.xs 0 m p.valid (stopped_behind f s n k at p) (omega (arith, p.number)) (omega (arith, size, p.octet)) (omega arith);
    }

-- ---- what is refused, and what is shown

next-refused : (f : Format) (offset number : ℕ) (s : List ℕ) (n k at : ℕ) → NextRefusal f offset number s n k at
    → next_call (format_number f) offset number s ≡ refused_at n k at
next-refused f offset number s n k at (past_the_recording l) = next_past (format_number f) s f (format_numbered_lem f) number offset l
next-refused f offset number s n k at (number_above l) = next_above (format_number f) s f (format_numbered_lem f) number offset l
next-refused f offset number s n k at (frame_refused l h e) = next_frame (format_number f) s f (format_numbered_lem f) number offset (refused n) l h e

next-shows : (f : Format) (offset number : ℕ) (s : List ℕ) (x : Frame) (number' offset' : ℕ)
    → ((n : ℕ) × (offset < length s) × (number ≤ offset) × (read_frame f (drop offset s) ≡ ok (x, n)) × (number' ≡ suc number) × (offset' ≡ offset + n))
    → next_call (format_number f) offset number s ≡ done (shows x number' offset')
next-shows f offset number s x number' offset' e =
    next_frame (format_number f) s f (format_numbered_lem f) number offset (ok (x, e.0)) e.1 e.2 e.3
    ∙ ap₂ (λ j p. done (shows x j p)) (sym e.4) (sym e.5)

pub views_recordings : ViewsRecordings open_call next_call
views_recordings = record {
  valid = λ f s xs o. valid f s xs;
  stopped = λ f s n k at o. stopped f s n k at;
  unknown = λ format offset number s e. (open_unknown format s e, next_unknown format s number offset e);
  unopened = λ f s n k at. (
    λ h. subst (OpeningSays f s) h (open_said (format_number f) s f (format_numbered_lem f)),
    λ r. open_refused (format_number f) s f (format_numbered_lem f) n r.0 ∙ ap₂ (refused_at n) (sym r.1) (sym r.2),
  );
  refuses = λ f offset number s n k at. (
    λ h. subst (NextSays f s number offset) h (next_said (format_number f) s f (format_numbered_lem f) number offset),
    next-refused f offset number s n k at,
  );
  ends = λ f offset number s. (
    λ h. subst (NextSays f s number offset) h (next_said (format_number f) s f (format_numbered_lem f) number offset),
    λ e. next_end (format_number f) s f (format_numbered_lem f) number offset e.0 e.1,
  );
  opened = λ f s place. (
    λ h. subst (OpeningSays f s) h (open_said (format_number f) s f (format_numbered_lem f)),
    λ e. open_first (format_number f) s f (format_numbered_lem f) e.0 (octets-same _ _ e.1) ∙ ap done (sym e.2),
  );
  shown = λ f offset number s x number' offset'. (
    λ h. subst (NextSays f s number offset) h (next_said (format_number f) s f (format_numbered_lem f) number offset),
    next-shows f offset number s x number' offset',
  );
}

-- ---- two such viewers answer the same: each answer of one says what makes the other answer so

module _ (opening other : Opener) (next after : Stepper) (v : ViewsRecordings opening next) (w : ViewsRecordings other after) (f : Format) (s : List ℕ) where
  opens-same : (a : Placed (ℕ × ℕ)) → opening (format_number f) s ≡ a → a ≡ other (format_number f) s
  opens-same (refused_at n k at) e = sym ((w.unopened f s n k at).1 ((v.unopened f s n k at).0 e))
  opens-same (done place) e = sym ((w.opened f s place).1 ((v.opened f s place).0 e))

  next-same : (offset number : ℕ) (a : Placed View) → next (format_number f) offset number s ≡ a → a ≡ after (format_number f) offset number s
  next-same offset number (refused_at n k at) e = sym ((w.refuses f offset number s n k at).1 ((v.refuses f offset number s n k at).0 e))
  next-same offset number (done (shows x j p)) e = sym ((w.shown f offset number s x j p).1 ((v.shown f offset number s x j p).0 e))
  next-same offset number (done end) e = sym ((w.ends f offset number s).1 ((v.ends f offset number s).0 e))

-- what holds of each format's number, and of every number that is no format's, holds of all
by-format : (P : ℕ → Type 0) → ((f : Format) → P (format_number f)) → ((n : ℕ) → format_numbered n ≡ refused 11 → P n) → (n : ℕ) → P n
by-format P known other zero = other zero refl
by-format P known other (suc zero) = known if1
by-format P known other (suc (suc zero)) = known if2
by-format P known other (suc (suc (suc zero))) = known storage
by-format P known other (suc (suc (suc (suc n)))) = other (suc (suc (suc (suc n)))) refl

pub viewers_agree : ViewersAgree
viewers_agree = record {
  same_opening = λ opening other next after v w format s. by-format (λ n. opening n s ≡ other n s)
      (λ f. opens-same opening other next after v w f s (opening (format_number f) s) refl)
      (λ n e. (v.unknown n 0 0 s e).0 ∙ sym (w.unknown n 0 0 s e).0)
      format;
  same_next = λ opening other next after v w format offset number s. by-format (λ n. next n offset number s ≡ after n offset number s)
      (λ f. next-same opening other next after v w f s offset number (next (format_number f) offset number s) refl)
      (λ n e. (v.unknown n offset number s e).1 ∙ sym (w.unknown n offset number s e).1)
      format;
}
