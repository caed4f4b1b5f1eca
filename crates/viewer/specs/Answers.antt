-- What the answer of a viewer says: document 01's number with its place, the end, or the frame with the number and the offset behind it.
use Rattle.std.specs.Prelude.{◌≡◌, Bool, List, [], ℕ, drop, Option, Some, None, Result, Ok, Err}
use Rattle.bits.specs.Bits.{bits}
use Rattle.definitions.specs.Outcome.{Outcome, refused, ok}
use Rattle.definitions.specs.Frames.{Format, core_in}
use Rattle.definitions.specs.Reading.{format_numbered, buffer_core}
use Rattle.recordings.specs.Placed.{Placed}
use Rattle.recordings.specs.Viewer.{View, shows, end, next_call, view_after, moved}
use Rattle.frame.specs.Answers.{frame_with}
use Rattle.frame.specs.declared.FrameHeader.{FrameHeader}
use Rattle.recording_reader.specs.Answers.{placed_of}
use Rattle.recording_reader.specs.declared.RefusedAt.{RefusedAt}
use Rattle.viewer.specs.declared.Place.{Place}

-- the number and the offset
abbrev pub number_and_offset : Place → ℕ × ℕ
number_and_offset p = (p.number, p.offset)

abbrev pub opened_of : Result Place RefusedAt → Placed (ℕ × ℕ)
opened_of = placed_of number_and_offset

-- what a call hands out: a frame with the place behind it, or the end
abbrev pub Shown : Type 0
Shown = Option (FrameHeader × Place)

-- the core is where the call put or found it, by the frame's type
abbrev pub shown_of : (ℕ → List Bool) → Shown → View
shown_of core (Some r) = shows (frame_with r.0 (core r.0.frame_type)) r.1.number r.1.offset
shown_of core None = end

abbrev pub view_of : (ℕ → List Bool) → Result Shown RefusedAt → Placed View
view_of core = placed_of (shown_of core)

-- the number and the offset for the call behind an answer: the end and a refusal leave them
abbrev pub place_after : ℕ × ℕ → Result Shown RefusedAt → ℕ × ℕ
place_after place (Ok (Some r)) = number_and_offset r.1
place_after place (Ok None) = place
place_after place (Err e) = place

-- the core of a frame of type t that stands in a recording at an offset
abbrev pub core_if : Outcome Format → (offset : ℕ) → List ℕ → ℕ → List Bool
core_if (refused n) offset s t = []
core_if (ok f) offset s t = core_in f t (bits (drop offset s))

abbrev pub core_in_recording : (format offset : ℕ) → List ℕ → ℕ → List Bool
core_in_recording format offset s t = core_if (format_numbered format) offset s t

-- a is the answer o of a call from a number and an offset, and has the number and the offset for the call behind it
pub record Views (core : ℕ → List Bool) (o : Placed View) (place : ℕ × ℕ) (a : Result Shown RefusedAt) : Type 0 where
  pub answer : view_of core a ≡ o
  pub behind : place_after place a ≡ moved o place

-- a is the answer of `next_call`, with the core where the frame stands in the recording
abbrev pub Nexts : (format offset number : ℕ) → List ℕ → Result Shown RefusedAt → Type 0
Nexts format offset number s a = Views (core_in_recording format offset s) (next_call format offset number s) (number, offset) a

-- a is the answer o of a call that puts the core into a buffer, which is d₀ before the call and d after it
pub record ViewsInto (o : Placed View) (place : ℕ × ℕ) (d₀ d : List ℕ) (a : Result Shown RefusedAt) : Type 0 where
  pub views : Views (buffer_core d) o place a
  pub buffer : d ≡ view_after o d₀
