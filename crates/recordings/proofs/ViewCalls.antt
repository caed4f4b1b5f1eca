-- The calls of a viewer: what each answers once its tests are decided, by the order of the definition. Assumes nothing.
use mathlib.Core.Path.{◌≡◌, refl, sym, ◌∙◌, subst}
use mathlib.Core.Bool.{Bool, true, false, ◌&&◌, cond}
use mathlib.Core.Logic.{◌≢◌}
use mathlib.Core.List.{List}
use Prim.Native.Nat.{ℕ, suc, ◌+◌, ◌<◌, ◌≤◌}
use native.Mathlib.Omega.{arith}
use lib.Dec.{eqb, leb}
use lib.ListN.{length, take, drop}
use borrow.Author.Tests.{le-leb, lt-leb, eq-eqb, ne_eqb, leb-true, leb-false, eqb-true, eqb-false}
use Rattle.std.proofs.Math.Bool.{and-false}
use Rattle.definitions.specs.Outcome.{Outcome, refused, ok}
use Rattle.definitions.specs.Frames.{Format, Frame}
use Rattle.definitions.specs.Reading.{read_frame, format_numbered}
use Rattle.recordings.specs.Placed.{Placed, refused_at, done, unless_at, placed}
use Rattle.recordings.specs.Recordings.{limit, file_header, headed, judged_front}
use Rattle.recordings.specs.Claims.{FrontRefusal}
use Rattle.recordings.specs.Viewer.{View, shows, end, open_call, next_call}
use Rattle.recordings.specs.ViewerClaims.{NextRefusal, past_the_recording, number_above, frame_refused}
use Rattle.recordings.proofs.Claims.{same-octets, front_refuses, front_passes, front_said}

-- what the answers of opening and of a call for the next frame say
abbrev pub OpeningSays : Format → List ℕ → Placed (ℕ × ℕ) → Type 0
OpeningSays f s (refused_at n k at) = FrontRefusal f s n × (k ≡ 0) × (at ≡ 0)
OpeningSays f s (done place) = (length s ≤ limit) × (take (length (file_header f)) s ≡ file_header f) × (place ≡ (0, length (file_header f)))

abbrev pub NextSays : Format → List ℕ → (k at : ℕ) → Placed View → Type 0
NextSays f s k at (refused_at n j p) = NextRefusal f at k s n j p
NextSays f s k at (done end) = (at ≡ length s) × (k ≤ at)
NextSays f s k at (done (shows x j p)) =
    (n : ℕ) × (at < length s) × (k ≤ at) × (read_frame f (drop at s) ≡ ok (x, n)) × (j ≡ suc k) × (p ≡ at + n)

-- where a viewer starts
abbrev start : Format → Placed (ℕ × ℕ)
start f = done (0, length (file_header f))

module _ (format : ℕ) (s : List ℕ) where
  pub open_unknown : format_numbered format ≡ refused 11 → open_call format s ≡ refused_at 11 0 0
  unfolding open_call
  open_unknown e = rw e

  pub next_unknown : (k at : ℕ) → format_numbered format ≡ refused 11 → next_call format at k s ≡ refused_at 11 0 0
  unfolding next_call
  next_unknown k at e = rw e

  -- once the format is known
  module _ (f : Format) (found : format_numbered format ≡ ok f) where
    open_is : open_call format s ≡ judged_front f s (start f)
    unfolding open_call
    open_is = rw found

    pub open_refused : (n : ℕ) → FrontRefusal f s n → open_call format s ≡ refused_at n 0 0
    open_refused n r = open_is ∙ front_refuses f s (start f) n r

    pub open_first : length s ≤ limit → headed f s ≡ true → open_call format s ≡ done (0, length (file_header f))
    open_first l h = open_is ∙ front_passes f s (start f) l h

    pub next_past : (k at : ℕ) → length s < at → next_call format at k s ≡ refused_at 11 0 0
    unfolding next_call
    next_past k at l = rw (found, ne_eqb at (length s) (λ q. omega arith), lt-leb at (length s) l)

    pub next_above : (k at : ℕ) → at < k → next_call format at k s ≡ refused_at 11 0 0
    unfolding next_call
    next_above k at h = rw (found, lt-leb k at h, and-false (leb at (length s)))

    pub next_end : (k at : ℕ) → at ≡ length s → k ≤ at → next_call format at k s ≡ done end
    unfolding next_call
    next_end k at l h = rw (found, le-leb at (length s) (omega arith), le-leb k at h, eq-eqb at (length s) l)

    pub next_frame : (k at : ℕ) (o : Outcome (Frame × ℕ)) → at < length s → k ≤ at → read_frame f (drop at s) ≡ o
        → next_call format at k s ≡ placed o k at (λ y. done (shows y.0 (suc k) (at + y.1)))
    unfolding next_call
    next_frame k at o l h e = rw (found, le-leb at (length s) (omega arith), le-leb k at h, ne_eqb at (length s) (λ q. omega arith), e)

    -- what the answer of each call says
    pub open_said : OpeningSays f s (open_call format s)
    open_said = subst (OpeningSays f s) (sym open_is) (front_said f s (start f) (OpeningSays f s) (λ n r. (r, refl, refl)) (λ l h. (l, same-octets _ _ h, refl)))

    pub next_said : (k at : ℕ) → NextSays f s k at (next_call format at k s)
    unfolding next_call
    next_said k at =
        subst (NextSays f s k at) (sym is) (go (leb at (length s)) refl (leb k at) refl (eqb at (length s)) refl (read_frame f (drop at s)) refl)
      where
        after : Bool → Bool → Bool → Outcome (Frame × ℕ) → Placed View
        after a b c o = unless_at 11 (a && b) (cond c (done end) (placed o k at (λ y. done (shows y.0 (suc k) (at + y.1)))))

        is : next_call format at k s ≡ after (leb at (length s)) (leb k at) (eqb at (length s)) (read_frame f (drop at s))
        is = rw found

        go : (a : Bool) → leb at (length s) ≡ a → (b : Bool) → leb k at ≡ b → (c : Bool) → eqb at (length s) ≡ c
            → (o : Outcome (Frame × ℕ)) → read_frame f (drop at s) ≡ o → NextSays f s k at (after a b c o)
        go false ea b eb c ec o e = past_the_recording (leb-false _ _ ea)
        go true ea false eb c ec o e = number_above (leb-false _ _ eb)
        go true ea true eb true ec o e = (eqb-true _ _ ec, leb-true _ _ eb)
        go true ea true eb false ec (refused n) e =
            let p : at ≢ length s = eqb-false _ _ ec in
            frame_refused (omega (arith, leb-true at (length s) ea)) (leb-true _ _ eb) e
        go true ea true eb false ec (ok y) e =
            let p : at ≢ length s = eqb-false _ _ ec in
            (y.1, omega (arith, leb-true at (length s) ea), leb-true _ _ eb, e, refl, refl)

    -- a frame that is shown was read at the place
    pub next_shown : (k at : ℕ) (x : Frame) (j p : ℕ) → next_call format at k s ≡ done (shows x j p)
        → (n : ℕ) × (at ≤ length s) × (read_frame f (drop at s) ≡ ok (x, n))
    next_shown k at x j p h =
        let t = subst (NextSays f s k at) h (next_said k at) in
        let m : at ≤ length s = omega (arith, t.1) in
        (t.0, m, t.3)
