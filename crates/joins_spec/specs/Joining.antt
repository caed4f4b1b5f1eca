-- The calls that make one recording of two of its format: how they judge, and the two lists of frames merged (document 02, n).
use Rattle.std.specs.Prelude.{Bool, ◌||◌, cond, List, [], ◌∷◌, ℕ, length, leb}
use Rattle.definitions.specs.Frames.{Format, Frame}
use Rattle.definitions.specs.Reception.{frame_class}
use Rattle.definitions.specs.Reading.{format_numbered}
use Rattle.recordings.specs.Placed.{Placed, done, unless_at, placed}
use Rattle.recordings.specs.Recordings.{limit, read_recording, write_recording}
use Rattle.recordings.specs.Report.{is_speech_lost, is_no_data}
use Rattle.joins_spec.specs.Joined.{Joined, made, in_recording}

-- ---- merged

-- "lost or empty", at either quality
abbrev pub is_gap : Frame → Bool
is_gap x = is_speech_lost (frame_class x) || is_no_data (frame_class x)

-- "slot by slot the first's frame, but the second's where the first's is lost or empty or has ended and the second still has one"
abbrev pub merged : List Frame → List Frame → List Frame
merged [] ys = ys
merged (x ∷ xs) [] = x ∷ xs
merged (x ∷ xs) (y ∷ ys) = cond (is_gap x) y x ∷ merged xs ys

-- ---- the call

-- the recording of the frames zs, "one header" in storage format, into a buffer of room octets: 9 for what would be written, then 10
abbrev pub written_into : Format → List Frame → (room : ℕ) → Placed (ℕ × List ℕ)
written_into f zs room =
    let w : List ℕ = write_recording f zs in
    unless_at 9 (leb (length w) limit) (unless_at 10 (leb (length w) room) (done (length zs, w)))

-- what follows on two valid recordings: 11; the first by 9, 8 and its frames, "judged whole before the second"; then the second
abbrev pub both_judged : {A : Type 0} → (format : ℕ) → (a b : List ℕ) → (Format → List Frame → List Frame → Joined A) → Joined A
both_judged format a b next =
    in_recording 0 (placed (format_numbered format) 0 0 done)
    (λ f. in_recording 0 (read_recording f a) (λ xs. in_recording 1 (read_recording f b) (next f xs)))

-- a call whose result has the frames that `combine` makes of the two lists
unfoldable pub join_call : (combine : List Frame → List Frame → List Frame) → (format : ℕ) → (a b : List ℕ) → (room : ℕ) → Joined (ℕ × List ℕ)
join_call combine format a b room = both_judged format a b (λ f xs ys. in_recording 0 (written_into f (combine xs ys) room) made)

abbrev pub merge_call : (format : ℕ) → (a b : List ℕ) → (room : ℕ) → Joined (ℕ × List ℕ)
merge_call = join_call merged
