-- Reading and building one frame (document 01, "The frame", "Refused because of the input" and "Order").
use Rattle.std.specs.Prelude.{Bool, true, false, not, ◌&&◌, ◌||◌, List, ◌++◌, ℕ, zero, suc, ◌-◌, ◌*◌, length, take, drop, eqb, leb}
use Rattle.bits.specs.Bits.{clear, bits, pack}
use Rattle.definitions.specs.Outcome.{Outcome, refused, ok, unless, and_then}
use Rattle.definitions.specs.Frames.{Format, if1, if2, storage, highest_type, Frame, frame_by, known, core_bits, octets, core_octets, layout, type_in, frame_in, spare_clear, fields_good, crc_good}

-- the frame at the start of the octets, with how many it takes; a single frame has nothing behind it. 1 no octets; 2 a reserved type;
-- 3 fewer octets than the type's; 4 octets behind a single frame; 5 a spare or filling bit 1; 6 a mode above 8 or a field that must be 0
-- is not; 7 the CRC
unfoldable pub read_with : Bool → Format → List ℕ → Outcome (Frame × ℕ)
read_with single f s =
    let bs : List Bool = bits s in
    let t : ℕ = type_in f bs in
    let n : ℕ = octets f t in
    let x : Frame = frame_in f bs in
    unless 1 (leb 1 (length s))
    (unless 2 (known t)
    (unless 3 (leb n (length s))
    (unless 4 (not single || leb (length s) n)
    (unless 5 (spare_clear f bs)
    (unless 6 (fields_good f x)
    (unless 7 (crc_good f bs)
    (ok (x, n))))))))

-- in a recording or a viewer, where more frames may follow
abbrev pub read_frame : Format → List ℕ → Outcome (Frame × ℕ)
read_frame f s = read_with false f s

-- the format of a number, or 11
abbrev pub format_numbered : ℕ → Outcome Format
format_numbered zero = refused 11
format_numbered (suc zero) = ok if1
format_numbered (suc (suc zero)) = ok if2
format_numbered (suc (suc (suc zero))) = ok storage
format_numbered (suc (suc (suc (suc n)))) = refused 11

abbrev pub format_number : Format → ℕ
format_number if1 = 1
format_number if2 = 2
format_number storage = 3

-- a frame whose packed core goes into a buffer of room octets, with how many it takes there
abbrev pub into_buffer : Frame → ℕ → Outcome (Frame × ℕ)
into_buffer x room = unless 10 (leb (core_octets x.type) room) (ok (x, core_octets x.type))

-- a call that reads one frame, by the format's number
unfoldable pub read_call : ℕ → List ℕ → ℕ → Outcome (Frame × ℕ)
read_call format s room = and_then (format_numbered format) (λ f. and_then (read_with true f s) (λ y. into_buffer y.0 room))

-- a buffer after w was written to its front: octets beyond stay
abbrev pub overwritten : List ℕ → List ℕ → List ℕ
overwritten w d = w ++ drop (length w) d

-- the core's buffer after a call that reads one frame; a refused call leaves it
abbrev pub core_after : Outcome (Frame × ℕ) → List ℕ → List ℕ
core_after (refused n) d = d
core_after (ok y) d = overwritten (pack y.0.core) d

-- the core of a frame of type t that stands packed in a buffer
abbrev pub buffer_core : List ℕ → ℕ → List Bool
buffer_core d t = take (core_bits t) (bits d)

-- the frame of the numbers and the packed core that a building call is handed
abbrev pub frame_of : ℕ → ℕ → ℕ → ℕ → List ℕ → Frame
frame_of t q i r c = frame_by t q i r (buffer_core c t)

-- the filling bits of the packed core of a frame of type t are 0
abbrev pub core_fill_clear : ℕ → List ℕ → Bool
core_fill_clear t c = clear (8 * length c - core_bits t) (drop (core_bits t) (bits c))

-- the frame that a building call would write into room octets, with how many it takes. 11 a type above 15, a quality above 1 or, of a
-- type that is not reserved, another length of the core than its octets; 2, 5 and 6 as in reading; 10 too little room
unfoldable pub build_check : Format → ℕ → ℕ → ℕ → ℕ → List ℕ → ℕ → Outcome (Frame × ℕ)
build_check f t q i r c room =
    let x : Frame = frame_of t q i r c in
    unless 11 (leb t highest_type && (leb q 1 && (not (known t) || eqb (length c) (core_octets t))))
    (unless 2 (known t)
    (unless 5 (core_fill_clear t c)
    (unless 6 (fields_good f x)
    (unless 10 (leb (octets f t) room)
    (ok (x, octets f t))))))

-- a call that builds a frame: the octets that it writes
abbrev pub build_frame : Format → ℕ → ℕ → ℕ → ℕ → List ℕ → ℕ → Outcome (List ℕ)
build_frame f t q i r c room = and_then (build_check f t q i r c room) (λ y. ok (layout f y.0))

-- how many octets a call wrote
abbrev pub counted : Outcome (List ℕ) → Outcome ℕ
counted (refused n) = refused n
counted (ok w) = ok (length w)

-- the output buffer after it; a refused call leaves it
abbrev pub output_after : Outcome (List ℕ) → List ℕ → List ℕ
output_after (refused n) d = d
output_after (ok w) d = overwritten w d
