-- Programs that are no converters. What must be believed does not rest on them.
use Rattle.std.specs.Prelude.{Bool, not, List, [], ◌∷◌, map, ℕ, suc, ◌-◌, length, take, leb}
use Rattle.definitions.specs.Frames.{Frame, frame_by}
use Rattle.recordings.specs.Placed.{done, unless_at, and_then_at}
use Rattle.recordings.specs.Recordings.{limit, read_recording, write_recording}
use Rattle.recordings.specs.Conversion.{carried, arguments_judged, convert_call}
use Rattle.recordings.specs.ConversionClaims.{Converter}

-- ---- other frames

-- the call that counts the frames as a conversion does, and writes those which `change` makes of them
abbrev pub converting_as : (change : List Frame → List Frame) → Converter
converting_as change from to request s room =
    arguments_judged from to request
    (λ f g.
    and_then_at (read_recording f s)
    (λ xs.
    let w : List ℕ = write_recording g (change (map (carried g f request) xs)) in
    unless_at 9 (leb (length w) limit) (unless_at 10 (leb (length w) room) (done (length xs, w)))))

-- one that copies the first frame and only counts the others
abbrev pub first_only : Converter
first_only = converting_as (take 1)

-- one that drops the last frame
abbrev pub without_last : List Frame → List Frame
without_last [] = []
without_last (x ∷ []) = []
without_last (x ∷ (y ∷ xs)) = x ∷ without_last (y ∷ xs)

abbrev pub drops_last : Converter
drops_last = converting_as without_last

-- one that inverts d(0) of each frame, so that the way back of a round trip inverts it again
abbrev pub inverted : List Bool → List Bool
inverted [] = []
inverted (b ∷ core) = not b ∷ core

abbrev pub inverts_d0 : Converter
inverts_d0 = converting_as (map (λ x. frame_by x.type x.quality x.indication x.request (inverted x.core)))

-- ---- another count, another refusal

-- one that counts a frame too many
abbrev pub counts_one_more : Converter
counts_one_more from to request s room = and_then_at (convert_call from to request s room) (λ y. done (suc y.0, y.1))

-- one that refuses a buffer which fits exactly
abbrev pub wants_one_more : Converter
wants_one_more from to request s room = convert_call from to request s (room - 1)
