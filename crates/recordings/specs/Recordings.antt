-- Recordings (document 01, "Recordings and conversion", first two paragraphs; RFC 4867, 5.1 for the file header).
use Rattle.std.specs.Prelude.{Bool, true, false, ◌&&◌, List, [], ◌∷◌, ◌++◌, ℕ, zero, suc, ◌-◌, length, take, drop, eqb, leb}
use Rattle.definitions.specs.Frames.{Format, if1, if2, storage, Frame, layout}
use Rattle.definitions.specs.Reading.{read_frame, format_numbered}
use Rattle.recordings.specs.Placed.{Placed, refused_at, done, unless_at, and_then_at, placed}

-- "up to 16,777,215 octets", the file header included
abbrev pub limit : ℕ
limit = 16777215

-- "#!AMR-WB" and line feed; IF1 and IF2 have none
abbrev pub file_header : Format → List ℕ
file_header if1 = []
file_header if2 = []
file_header storage = 0x23 ∷ 0x21 ∷ 0x41 ∷ 0x4D ∷ 0x52 ∷ 0x2D ∷ 0x57 ∷ 0x42 ∷ 0x0A ∷ []

abbrev pub same_octets : List ℕ → List ℕ → Bool
same_octets [] [] = true
same_octets [] (y ∷ b) = false
same_octets (x ∷ a) [] = false
same_octets (x ∷ a) (y ∷ b) = eqb x y && same_octets a b

-- the recording begins with the format's file header
abbrev pub headed : Format → List ℕ → Bool
headed f s = same_octets (take (length (file_header f)) s) (file_header f)

abbrev pub followed_by : Frame → Placed (List Frame) → Placed (List Frame)
followed_by x (refused_at n k at) = refused_at n k at
followed_by x (done xs) = done (x ∷ xs)

-- the frames in the octets, the first of which has the place at in the recording: skip octets of the frame before come first, and the next
-- frame has number k. "The walk stops at the first refused frame"
abbrev pub scan : Format → (skip k at : ℕ) → List ℕ → Placed (List Frame)
scan f skip k at [] = done []
scan f zero k at (o ∷ s) = placed (read_frame f (o ∷ s)) k at (λ y. followed_by y.0 (scan f (y.1 - 1) (suc k) (suc at) s))
scan f (suc skip) k at (o ∷ s) = scan f skip k (suc at) s

-- behind the file header
abbrev pub scan_frames : Format → List ℕ → Placed (List Frame)
scan_frames f s = scan f 0 0 (length (file_header f)) (drop (length (file_header f)) s)

-- in front of the frames: 9 too long; 8 another file header
abbrev pub judged_front : {A : Type 0} → Format → List ℕ → Placed A → Placed A
judged_front f s next = unless_at 9 (leb (length s) limit) (unless_at 8 (headed f s) next)

-- the frames of a recording: 9, 8, then each frame by 2 to 7
unfoldable pub read_recording : Format → List ℕ → Placed (List Frame)
read_recording f s = judged_front f s (scan_frames f s)

-- "Its octets, after the header of a stored one, are then whole frames end to end"
abbrev pub layouts : Format → List Frame → List ℕ
layouts f [] = []
layouts f (x ∷ xs) = layout f x ++ layouts f xs

unfoldable pub write_recording : Format → List Frame → List ℕ
write_recording f xs = file_header f ++ layouts f xs

-- a call that validates a recording, by the format's number: frames read, and no octet written
unfoldable pub validate_call : ℕ → List ℕ → Placed (ℕ × ℕ)
validate_call format s = placed (format_numbered format) 0 0 (λ f. and_then_at (read_recording f s) (λ xs. done (length xs, 0)))
