-- Demand 2 for the viewer: what is to be true of any number of its calls (document 01, "Recordings and conversion", last paragraph).
use Rattle.std.specs.Prelude.{◌≡◌, ◌↔◌, List, [], ◌∷◌, ◌++◌, map, ℕ, zero, suc, ◌+◌, ◌<◌, ◌≤◌, length, take, drop, replicate}
use Rattle.bits.specs.Bits.{Octets}
use Rattle.definitions.specs.Outcome.{refused, ok}
use Rattle.definitions.specs.Frames.{Format, Frame}
use Rattle.definitions.specs.Reading.{read_frame, format_numbered, format_number}
use Rattle.recordings.specs.Placed.{Placed, refused_at, done}
use Rattle.recordings.specs.Recordings.{limit, file_header}
use Rattle.recordings.specs.Claims.{IsRecording, StopsAt, FrontRefusal}
use Rattle.recordings.specs.Viewer.{View, shows, end, moved}

-- ---- any number of calls

abbrev pub Opener : Type 0
Opener = (format : ℕ) → List ℕ → Placed (ℕ × ℕ)

abbrev pub Stepper : Type 0
Stepper = (format offset number : ℕ) → List ℕ → Placed View

-- what one call hands out
pub data Handed : Type 0 where
  frame : Frame → Handed
  the_end : Handed
  refusal : (number frame octet : ℕ) → Handed

abbrev pub handed : Placed View → Handed
handed (refused_at n k at) = refusal n k at
handed (done (shows x number offset)) = frame x
handed (done end) = the_end

-- what m calls hand out one after the other, the first from a number and an offset
abbrev pub in_turn : (ℕ × ℕ → Placed View) → (m : ℕ) → ℕ × ℕ → List Handed
in_turn next zero place = []
in_turn next (suc m) place = handed (next place) ∷ in_turn next m (moved (next place) place)

-- a viewer opens the recording, and m calls of it hand out the first m of the frames xs, and then `last` for ever
pub record Hands (opening : Opener) (next : Stepper) (f : Format) (s : List ℕ) (xs : List Frame) (last : Handed) : Type 0 where
  pub place : ℕ × ℕ
  pub opens : opening (format_number f) s ≡ done place
  pub hands : (m : ℕ) → in_turn (λ p. next (format_number f) p.1 p.0 s) m place ≡ take m (map frame xs ++ replicate m last)

-- what refuses a call for the next frame, once the format is known: "an offset past the recording, or a frame number above the offset, is 11";
-- where octets are left, what the frame reader refuses, with the frame's place
pub data NextRefusal (f : Format) (offset number : ℕ) (s : List ℕ) : (n k at : ℕ) → Type 0 where
  past_the_recording : length s < offset → NextRefusal f offset number s 11 0 0
  number_above : offset < number → NextRefusal f offset number s 11 0 0
  frame_refused : {n : ℕ} → offset < length s → number ≤ offset → read_frame f (drop offset s) ≡ refused n
      → NextRefusal f offset number s n number offset

-- demand 2, of a viewer: of a recording it hands out exactly the list of frames, then the end; of another the frames in front of the first
-- refused one, then its refusal. A format that is not known is 11. Otherwise "Opening it judges 11, 9 and 8", and the first frame has number 0
-- and begins behind the file header; a call for the next frame is refused on its conditions and on no other, says the end exactly where no
-- octet is left, and shows exactly the frame that is read at its place, with the number and the offset of the one behind it
pub record ViewsRecordings (opening : Opener) (next : Stepper) : Type 0 where
  pub valid : (f : Format) (s : List ℕ) (xs : List Frame) → Octets s → IsRecording f s xs → Hands opening next f s xs the_end
  pub stopped : (f : Format) (s : List ℕ) (n k at : ℕ) → Octets s → length s ≤ limit → (p : StopsAt f s n k at)
      → Hands opening next f s p.xs (refusal n k at)
  pub unknown : (format offset number : ℕ) (s : List ℕ) → format_numbered format ≡ refused 11
      → (opening format s ≡ refused_at 11 0 0) × (next format offset number s ≡ refused_at 11 0 0)
  pub unopened : (f : Format) (s : List ℕ) (n k at : ℕ)
      → (opening (format_number f) s ≡ refused_at n k at) ↔ (FrontRefusal f s n × (k ≡ 0) × (at ≡ 0))
  pub refuses : (f : Format) (offset number : ℕ) (s : List ℕ) (n k at : ℕ)
      → (next (format_number f) offset number s ≡ refused_at n k at) ↔ NextRefusal f offset number s n k at
  pub ends : (f : Format) (offset number : ℕ) (s : List ℕ)
      → (next (format_number f) offset number s ≡ done end) ↔ ((offset ≡ length s) × (number ≤ offset))
  pub opened : (f : Format) (s : List ℕ) (place : ℕ × ℕ) → (opening (format_number f) s ≡ done place)
      ↔ ((length s ≤ limit) × (take (length (file_header f)) s ≡ file_header f) × (place ≡ (0, length (file_header f))))
  pub shown : (f : Format) (offset number : ℕ) (s : List ℕ) (x : Frame) (number' offset' : ℕ)
      → (next (format_number f) offset number s ≡ done (shows x number' offset'))
      ↔ ((n : ℕ) × (offset < length s) × (number ≤ offset) × (read_frame f (drop offset s) ≡ ok (x, n))
      × (number' ≡ suc number) × (offset' ≡ offset + n))

-- nothing is left open: any two such viewers answer the same
pub record ViewersAgree : Type 0 where
  pub same_opening : (opening other : Opener) (next after : Stepper) → ViewsRecordings opening next → ViewsRecordings other after
      → (format : ℕ) (s : List ℕ) → opening format s ≡ other format s
  pub same_next : (opening other : Opener) (next after : Stepper) → ViewsRecordings opening next → ViewsRecordings other after
      → (format offset number : ℕ) (s : List ℕ) → next format offset number s ≡ after format offset number s
