-- One call of a viewer: each step of the code hands on what the definition's next step starts from. Assumes nothing.
use mathlib.Core.Path.{◌≡◌, refl, sym, ap, ◌∙◌, subst}
use mathlib.Core.Bool.{Bool, true, false}
use mathlib.Core.List.{List}
use Prim.Native.Nat.{ℕ, suc, ◌+◌, ◌-◌, ◌<◌, ◌≤◌}
use native.Mathlib.Omega.{arith}
use lib.ListN.{length, take, drop, length-drop}
use lib.Seq.{take_all}
use lib.Dec.{leb}
use borrow.Author.Tests.{leb-true}
use Rattle.std.specs.Prelude.{Some, None, Result, Ok, Err}
use Rattle.bits.specs.Bits.{bits}
use Rattle.definitions.specs.Outcome.{refused, ok, unless}
use Rattle.definitions.specs.Frames.{Format, Frame, known, octets, core_in, core_octets}
use Rattle.definitions.specs.Reading.{read_frame, format_numbered, into_buffer, core_after, buffer_core}
use Rattle.definitions.proofs.Frames.{never, read_known}
use Rattle.recordings.specs.Placed.{Placed, refused_at, done, placed, and_then_at}
use Rattle.recordings.specs.Viewer.{View, shows, end, next_call, into_room, view_call, view_after, moved}
use Rattle.recordings.proofs.Scan.{not_done}
use Rattle.recordings.proofs.ViewCalls.{next_frame, next_shown}
use Rattle.frame.specs.Answers.{number_of, frame_with, reading_of}
use Rattle.frame.specs.declared.FrameHeader.{FrameHeader}
use Rattle.frame.specs.declared.Refusal.{Refusal}
use Rattle.frame_reader.specs.Buffer.{IntoCore}
use Rattle.recording_reader.specs.Answers.{outside}
use Rattle.recording_reader.specs.declared.RefusedAt.{RefusedAt}
use Rattle.viewer.specs.Answers.{Shown, view_of, place_after, core_if, core_in_recording, Views, Nexts, ViewsInto}
use Rattle.viewer.specs.declared.Place.{Place}

-- an answer has the place for the call behind it
pub viewed : (core : ℕ → List Bool) (o : Placed View) (place : ℕ × ℕ) (a : Result Shown RefusedAt) → view_of core a ≡ o → Views core o place a
viewed core o place a e = record { answer = e; behind = behind a ∙ ap (λ o. moved o place) e }
  where
    behind : (a : Result Shown RefusedAt) → place_after place a ≡ moved (view_of core a) place
    behind (Ok (Some r)) = refl
    behind (Ok None) = refl
    behind (Err e) = refl

-- ---- the call over the recording

-- a format that is not known
pub unknown_next : (format offset number : ℕ) (s : List ℕ) (e : Refusal) → format_numbered format ≡ refused (number_of e) → Nexts format offset number s (Err (outside e))
unfolding next_call
unknown_next format offset number s e h = viewed _ _ _ _ (rw h)

-- the frame that was read
module _ (s : List ℕ) (offset : ℕ) (f : Format) (x : FrameHeader) (m : ℕ)
    (there : read_frame f (drop offset s) ≡ ok (frame_with x (core_in f x.frame_type (bits (drop offset s))), m)) where
  pub next_within : offset ≤ length s → offset + m ≤ length s
  next_within l = let k = read_known false f (drop offset s) _ m there in omega (arith, k.1, k.2, length-drop offset s)

  pub frame_next : (format number : ℕ) → format_numbered format ≡ ok f → offset < length s → number ≤ offset
      → Nexts format offset number s (Ok (Some (x, record { number = number + 1; offset = offset + m })))
  frame_next format number found l h =
      let core = core_in f x.frame_type (bits (drop offset s)) in
      viewed _ _ _ _
      (ap (λ o. done (shows (frame_with x (core_if o offset s x.frame_type)) (number + 1) (offset + m))) found
      ∙ ap (λ k. done (shows (frame_with x core) k (offset + m))) (let one : number + 1 ≡ suc number = omega arith in one)
      ∙ sym (next_frame format s f found number offset _ l h there))

-- ---- the core put into a buffer

-- what shows no frame, the end or a refusal, is handed on
pub handed_on : (core : ℕ → List Bool) (o : Placed View) (place : ℕ × ℕ) (room : ℕ) (d : List ℕ) (a : Result Shown RefusedAt)
    → ((r : FrameHeader × Place) → a ≡ Ok (Some r) → ⊥) → Views core o place a → ViewsInto (and_then_at o (into_room room)) place d d a
handed_on core o place room d (Ok (Some r)) none v = absurd (none r refl)
handed_on core o place room d (Ok None) none v =
    subst (λ o. ViewsInto (and_then_at o (into_room room)) place d d (Ok None)) v.answer (record { views = viewed _ _ _ _ refl; buffer = refl })
handed_on core o place room d (Err e) none v =
    subst (λ o. ViewsInto (and_then_at o (into_room room)) place d d (Err e)) v.answer (record { views = viewed _ _ _ _ refl; buffer = refl })

module _ (format offset number : ℕ) (s d : List ℕ) where
  pub ended : Nexts format offset number s (Ok None) → ViewsInto (view_call format offset number s (length d)) (number, offset) d d (Ok None)
  unfolding view_call
  ended v = handed_on (core_in_recording format offset s) _ _ (length d) d (Ok None) (λ r e. cc) v

  pub refused_view : (e : RefusedAt) → Nexts format offset number s (Err e) → ViewsInto (view_call format offset number s (length d)) (number, offset) d d (Err e)
  unfolding view_call
  refused_view e v = handed_on (core_in_recording format offset s) _ _ (length d) d (Err e) (λ r h. cc) v

-- a core that fits is that of the frame
into_room_lem : (y : Frame) (room : ℕ) (z : Frame) (m : ℕ) → into_buffer y room ≡ ok (z, m) → (into_buffer y room ≡ ok (y, core_octets y.type)) × (z ≡ y)
into_room_lem y room z m = go (leb (core_octets y.type) room)
  where
    go : (b : Bool) → unless {A = Frame × ℕ} 10 b (ok (y, core_octets y.type)) ≡ ok (z, m)
        → (unless {A = Frame × ℕ} 10 b (ok (y, core_octets y.type)) ≡ ok (y, core_octets y.type)) × (z ≡ y)
    go true h = (refl, (let e : ◌≡◌ {A = Frame × ℕ} (y, core_octets y.type) (z, m) = cc in sym (ap (λ (q : Frame × ℕ). q.0) e)))
    go false h = never 10 (z, m) h

-- a frame is shown
module _ (format offset number : ℕ) (s : List ℕ) (x : FrameHeader) (p : Place) (v : Nexts format offset number s (Ok (Some (x, p)))) (f : Format)
    (found : format_numbered format ≡ ok f) where
  abbrev y : Frame
  y = frame_with x (core_in f x.frame_type (bits (drop offset s)))

  shown-frame : next_call format offset number s ≡ done (shows y p.number p.offset)
  shown-frame = sym v.answer ∙ ap (λ o. done (shows (frame_with x (core_if o offset s x.frame_type)) p.number p.offset)) found

  pub offset_within : offset ≤ length s
  offset_within = (next_shown format s f found number offset y p.number p.offset shown-frame).1

  -- the code takes the part of the recording up to the end
  part_is : take (length s - offset) (drop offset s) ≡ drop offset s
  part_is = take_all (length s - offset) (drop offset s) (omega (arith, length-drop offset s))

  pub frame-known : (known x.frame_type ≡ true) × (octets f x.frame_type ≤ length (take (length s - offset) (drop offset s)))
  frame-known =
      let w = next_shown format s f found number offset y p.number p.offset shown-frame in
      let k = read_known false f (drop offset s) y w.0 w.2 in
      (k.0, subst (λ l. octets f x.frame_type ≤ length l) (sym part_is) k.1)

  view_is : (room : ℕ) → view_call format offset number s room ≡ placed (into_buffer y room) 0 0 (λ z. done (shows y p.number p.offset))
  unfolding view_call
  view_is room = ap (λ o. and_then_at o (into_room room)) shown-frame

  module _ (d₀ d : List ℕ) (r : Result (FrameHeader × ℕ) Refusal)
      (part : IntoCore (into_buffer (frame_with x (core_in f x.frame_type (bits (take (length s - offset) (drop offset s))))) (length d₀)) d₀ d r) where
    put : IntoCore (into_buffer y (length d₀)) d₀ d r
    put = subst (λ l. IntoCore (into_buffer (frame_with x (core_in f x.frame_type (bits l))) (length d₀)) d₀ d r) part_is part

    pub no_room : (e : Refusal) → r ≡ Err e → ViewsInto (view_call format offset number s (length d₀)) (number, offset) d₀ d (Err (outside e))
    no_room e er =
        let i : into_buffer y (length d₀) ≡ refused (number_of e) = sym put.answer ∙ ap (reading_of (buffer_core d)) er in
        let is : view_call format offset number s (length d₀) ≡ refused_at (number_of e) 0 0 =
        view_is (length d₀) ∙ ap (λ o. placed o 0 0 (λ z. done (shows y p.number p.offset))) i in
        record { views = viewed _ _ _ _ (sym is); buffer = put.buffer ∙ ap (λ o. core_after o d₀) i ∙ sym (ap (λ o. view_after o d₀) is) }

    pub core_there : (z : FrameHeader) (m : ℕ) → r ≡ Ok (z, m) → ViewsInto (view_call format offset number s (length d₀)) (number, offset) d₀ d (Ok (Some (x, p)))
    core_there z m er =
        let w = into_room_lem y (length d₀) _ m (sym put.answer ∙ ap (reading_of (buffer_core d)) er) in
        let is : view_call format offset number s (length d₀) ≡ done (shows y p.number p.offset) =
        view_is (length d₀) ∙ ap (λ o. placed o 0 0 (λ z. done (shows y p.number p.offset))) w.0 in
        let core : buffer_core d x.frame_type ≡ core_in f x.frame_type (bits (drop offset s)) =
        ap (buffer_core d) (sym (ap (λ (y : Frame). y.type) w.1)) ∙ ap (λ (y : Frame). y.core) w.1 in
        record {
          views = viewed _ _ _ _ (ap (λ c. done (shows (frame_with x c) p.number p.offset)) core ∙ sym is);
          buffer = put.buffer ∙ ap (λ o. core_after o d₀) w.0 ∙ sym (ap (λ o. view_after o d₀) is);
        }

-- the core of a frame that is shown fits the buffer
fits : (room : ℕ) (w : Placed View) (x : Frame) (number offset : ℕ) → and_then_at w (into_room room) ≡ done (shows x number offset) → core_octets x.type ≤ room
fits room (refused_at n k at) x number offset h = not_done n k at (shows x number offset) h
fits room (done end) x number offset h = absurd (let z : ◌≡◌ {A = ℕ} 0 1 = cc in omega arith)
fits room (done (shows y j p)) x number offset h = go (leb (core_octets y.type) room) refl h
  where
    go : (b : Bool) → leb (core_octets y.type) room ≡ b → placed (unless {A = Frame × ℕ} 10 b (ok (y, core_octets y.type))) 0 0 (λ z. done (shows y j p)) ≡ done (shows x number offset)
        → core_octets x.type ≤ room
    go true e h = let same : y ≡ x = cc in subst (λ (z : Frame). core_octets z.type ≤ room) same (leb-true _ _ e)
    go false e h = not_done 10 0 0 (shows x number offset) h

pub core_fits : (format offset number : ℕ) (s d₀ d : List ℕ) (a : Result Shown RefusedAt) (x : FrameHeader) (p : Place)
    → ViewsInto (view_call format offset number s (length d₀)) (number, offset) d₀ d a → a ≡ Ok (Some (x, p)) → core_octets x.frame_type ≤ length d₀
unfolding view_call
core_fits format offset number s d₀ d a x p v e =
    fits (length d₀) (next_call format offset number s) (frame_with x (buffer_core d x.frame_type)) p.number p.offset (sym v.views.answer ∙ ap (view_of (buffer_core d)) e)
