-- The conversion (document 01, "Recordings and conversion", first paragraph).
use Rattle.std.specs.Prelude.{cond, List, map, ℕ, length, leb}
use Rattle.definitions.specs.Frames.{Format, if1, if2, storage, highest_mode, sid_type, Frame, frame_by}
use Rattle.definitions.specs.Reading.{format_numbered, overwritten}
use Rattle.recordings.specs.Placed.{Placed, refused_at, done, unless_at, and_then_at, placed}
use Rattle.recordings.specs.Recordings.{limit, read_recording, write_recording}

-- "Towards IF1 from another format, indication is the type (0 for type 9), request is r (both 0 for types 14 and 15, which carry neither)"
abbrev pub with_modes : ℕ → Frame → Frame
with_modes r x = frame_by x.type x.quality (cond (leb x.type highest_mode) x.type 0) (cond (leb x.type sid_type) r 0) x.core

-- towards IF2 and storage format, which carry neither
abbrev pub without_modes : Frame → Frame
without_modes x = frame_by x.type x.quality 0 0 x.core

-- a frame of the format "from" as it is written in the format "to", which comes first here: "each with its type, quality and core"; "IF1 to
-- IF1 copies"
abbrev pub carried : (to from : Format) → ℕ → Frame → Frame
carried if1 if1 r x = x
carried if1 if2 r x = with_modes r x
carried if1 storage r x = with_modes r x
carried if2 from r x = without_modes x
carried storage from r x = without_modes x

-- the octets that a conversion of the frames writes
abbrev pub converted : (from to : Format) → ℕ → List Frame → List ℕ
converted f g r xs = write_recording g (map (carried g f r) xs)

-- frames read, and the octets to be written: "reads everything", then 9 for what would be written
unfoldable pub conversion : (from to : Format) → ℕ → List ℕ → Placed (ℕ × List ℕ)
conversion f g r s =
    and_then_at (read_recording f s) (λ xs. unless_at 9 (leb (length (converted f g r xs)) limit) (done (length xs, converted f g r xs)))

-- two formats and a request by their numbers, 11 judged first
abbrev pub arguments_judged : {A : Type 0} → (from to request : ℕ) → (Format → Format → Placed A) → Placed A
arguments_judged from to request next =
    placed (format_numbered from) 0 0 (λ f. placed (format_numbered to) 0 0 (λ g. unless_at 11 (leb request highest_mode) (next f g)))

-- a call that converts a recording into a buffer of room octets: 11, then what `conversion` judges, then 10
unfoldable pub convert_call : (from to request : ℕ) → List ℕ → (room : ℕ) → Placed (ℕ × List ℕ)
convert_call from to request s room =
    arguments_judged from to request (λ f g. and_then_at (conversion f g request s) (λ y. unless_at 10 (leb (length y.1) room) (done y)))

-- frames read and how many octets: the answer of a call that writes, or would write, the octets
abbrev pub counted_at : Placed (ℕ × List ℕ) → Placed (ℕ × ℕ)
counted_at (refused_at n k at) = refused_at n k at
counted_at (done y) = done (y.0, length y.1)

-- a call that answers how many octets a conversion would write
unfoldable pub length_call : (from to request : ℕ) → List ℕ → Placed (ℕ × ℕ)
length_call from to request s = arguments_judged from to request (λ f g. counted_at (conversion f g request s))

-- the output buffer after a conversion; a refused call leaves it
abbrev pub buffer_after : Placed (ℕ × List ℕ) → List ℕ → List ℕ
buffer_after (refused_at n k at) d = d
buffer_after (done y) d = overwritten y.1 d
