-- The viewer (document 01, "Recordings and conversion", last paragraph).
use Rattle.std.specs.Prelude.{◌&&◌, cond, List, ℕ, suc, ◌+◌, length, drop, eqb, leb}
use Rattle.bits.specs.Bits.{pack}
use Rattle.definitions.specs.Frames.{Frame}
use Rattle.definitions.specs.Reading.{read_frame, format_numbered, into_buffer, overwritten}
use Rattle.recordings.specs.Placed.{Placed, refused_at, done, unless_at, and_then_at, placed}
use Rattle.recordings.specs.Recordings.{file_header, judged_front}

-- what a viewer hands out: a frame, with the number and the offset of the one behind it, or the end of the recording
pub data View : Type 0 where
  shows : (x : Frame) (number offset : ℕ) → View
  end : View

-- "Opening it judges 11, 9 and 8": the number and the offset of the first frame
unfoldable pub open_call : (format : ℕ) → List ℕ → Placed (ℕ × ℕ)
open_call format s = placed (format_numbered format) 0 0 (λ f. judged_front f s (done (0, length (file_header f))))

-- the next frame, which has this number and begins at this offset: "an offset past the recording, or a frame number above the offset, is 11";
-- then the end, and then the frame by 2 to 7
unfoldable pub next_call : (format offset number : ℕ) → List ℕ → Placed View
next_call format offset number s =
    placed (format_numbered format) 0 0
    (λ f.
    unless_at 11 (leb offset (length s) && leb number offset)
    (cond (eqb offset (length s)) (done end)
    (placed (read_frame f (drop offset s)) number offset (λ y. done (shows y.0 (suc number) (offset + y.1))))))

-- the same with the packed core put into a buffer of room octets
abbrev pub into_room : (room : ℕ) → View → Placed View
into_room room (shows x number offset) = placed (into_buffer x room) 0 0 (λ y. done (shows x number offset))
into_room room end = done end

unfoldable pub view_call : (format offset number : ℕ) → List ℕ → (room : ℕ) → Placed View
view_call format offset number s room = and_then_at (next_call format offset number s) (into_room room)

-- the core's buffer after it; the end and a refused call leave it
abbrev pub view_after : Placed View → List ℕ → List ℕ
view_after (refused_at n k at) d = d
view_after (done (shows x number offset)) d = overwritten (pack x.core) d
view_after (done end) d = d

-- the number and the offset for the call behind one: "At the end it says so and stays there; a refused frame leaves it before that frame"
abbrev pub moved : Placed View → (ℕ × ℕ) → ℕ × ℕ
moved (refused_at n k at) place = place
moved (done (shows x number offset)) place = (number, offset)
moved (done end) place = place
