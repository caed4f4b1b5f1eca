-- The converter that copies the first frame and only counts the others does not meet demand 3: of two frames it counts two on the way out
-- and one on the way back. The others do not meet demand 2: each is tried on a recording of one frame. Assumes nothing.
use mathlib.Core.Path.{◌≡◌, refl, sym, ap, ◌∙◌}
use mathlib.Core.Logic.{◌≢◌}
use mathlib.Core.Bool.{Bool, true, false}
use mathlib.Core.List.{List, [], ◌∷◌, ◌++◌, map}
use Prim.Native.Nat.{ℕ, ◌≤◌}
use native.Mathlib.Omega.{arith}
use lib.ListN.{length, get_or, replicate}
use Rattle.bits.specs.Bits.{one_if, Octets, odd, digits, num, bits, packs, pack}
use Rattle.definitions.specs.Frames.{Format, if2, storage, Frame, frame_by, known, core_bits, octets, header, layout, frame_in, spare_clear, fields_good, crc_good}
use Rattle.definitions.specs.Reading.{format_number, read_with}
use Rattle.definitions.specs.Cases.{no_data_frame}
use Rattle.recordings.specs.Placed.{refused_at, done}
use Rattle.recordings.specs.Recordings.{file_header, read_recording, write_recording}
use Rattle.recordings.specs.Conversion.{carried, converted, conversion, convert_call}
use Rattle.recordings.specs.ConversionClaims.{ValidRecording, Converter, ConvertsFrames}
use Rattle.recordings.specs.Demand3.{Demand3}
use Rattle.recordings.specs.WrongConverters.{first_only, drops_last, inverts_d0, counts_one_more, wants_one_more}
use Rattle.recordings.proofs.Scan.{not_done}
use Rattle.recordings.proofs.Trips.{octets_packed}

-- a stored recording of two frames without data
abbrev two : List ℕ
two = file_header storage ++ (0x7C ∷ 0x7C ∷ [])

two_octets : Octets two
unfolding odd digits num bits packs pack
two_octets = octets_packed two refl

two_read : ValidRecording storage two (no_data_frame ∷ no_data_frame ∷ [])
unfolding read_recording read_with odd digits num bits known core_bits octets frame_in spare_clear fields_good crc_good
two_read = refl

two_short : length (converted storage if2 0 (no_data_frame ∷ no_data_frame ∷ [])) ≤ 11
unfolding write_recording layout header odd digits num bits packs pack
two_short = omega arith

-- two frames counted, one written
first_out : first_only 3 2 0 two 11 ≡ done (2, 0xF8 ∷ [])
unfolding read_recording read_with write_recording layout header odd digits num bits packs pack known core_bits octets frame_in spare_clear fields_good crc_good
first_out = refl

first_back : first_only 2 3 0 (0xF8 ∷ []) 11 ≡ done (1, file_header storage ++ (0x7C ∷ []))
unfolding read_recording read_with write_recording layout header odd digits num bits packs pack known core_bits octets frame_in spare_clear fields_good crc_good
first_back = refl

other_format : storage ≢ if2
other_format e = let z : ◌≡◌ {A = ℕ} 0 1 = cc in omega arith

same_answer : (y z : ℕ × List ℕ) → done y ≡ done z → y ≡ z
same_answer y z e = cc

pub first-only-refused : Demand3 first_only → ⊥
first-only-refused d =
    let t = d.trip storage if2 other_format 0 (omega arith) two (no_data_frame ∷ no_data_frame ∷ []) two_octets two_read (omega (arith, two_short)) in
    let out = same_answer _ _ (sym first_out ∙ t.out 11 two_short) in
    let there : 0xF8 ∷ [] ≡ t.there = ap (λ (y : ℕ × List ℕ). y.1) out in
    let home = same_answer _ _ (sym first_back ∙ ap (λ s. first_only 2 3 0 s 11) there ∙ t.home 11 (omega arith)) in
    let frames : ◌≡◌ {A = ℕ} 1 2 = ap (λ (y : ℕ × List ℕ). y.0) home in
    omega arith

-- ---- demand 2

-- a converter that answers w, where w is read as other frames, does not meet demand 2
other_frames : (c : Converter) (f g : Format) (s w : List ℕ) (xs ys : List Frame) → Octets s → ValidRecording f s xs → length (converted f g 0 xs) ≤ 99
    → c (format_number f) (format_number g) 0 s 99 ≡ done (length xs, w) → ValidRecording g w ys → map (carried g f 0) xs ≢ ys → ConvertsFrames c → ⊥
other_frames c f g s w xs ys o v l e u n d =
    let a = d.writes f g 0 (omega arith) s xs 99 o v (omega (arith, l)) l in
    let y = same_answer _ _ (sym a.1 ∙ e) in
    let z : done (map (carried g f 0) xs) ≡ done ys = sym a.2.valid ∙ ap (read_recording g) (ap (λ (y : ℕ × List ℕ). y.1) y) ∙ u in
    n (cc)

-- a frame without data
abbrev one : List ℕ
one = file_header storage ++ (0x7C ∷ [])

one_octets : Octets one
unfolding odd digits num bits packs pack
one_octets = octets_packed one refl

one_read : ValidRecording storage one (no_data_frame ∷ [])
unfolding read_recording read_with odd digits num bits known core_bits octets frame_in spare_clear fields_good crc_good
one_read = refl

one_short : length (converted storage if2 0 (no_data_frame ∷ [])) ≤ 99
unfolding write_recording layout header odd digits num bits packs pack
one_short = omega arith

one_dropped : drops_last 3 2 0 one 99 ≡ done (1, [])
unfolding read_recording read_with write_recording odd digits num bits known core_bits octets frame_in spare_clear fields_good crc_good
one_dropped = refl

none_read : ValidRecording if2 [] []
unfolding read_recording
none_read = refl

one_kept : map (carried if2 storage 0) (no_data_frame ∷ []) ≢ []
one_kept e = let z : ◌≡◌ {A = ℕ} 1 0 = ap length e in omega arith

pub drops-last-refused : ConvertsFrames drops_last → ⊥
drops-last-refused = other_frames drops_last storage if2 one [] (no_data_frame ∷ []) [] one_octets one_read one_short one_dropped none_read one_kept

one_counted : counts_one_more 3 2 0 one 99 ≡ done (2, 0xF8 ∷ [])
unfolding convert_call conversion read_recording read_with write_recording layout header odd digits num bits packs pack known core_bits octets frame_in spare_clear fields_good crc_good
one_counted = refl

pub counts-one-more-refused : ConvertsFrames counts_one_more → ⊥
counts-one-more-refused d =
    let a = d.writes storage if2 0 (omega arith) one (no_data_frame ∷ []) 99 one_octets one_read (omega (arith, one_short)) one_short in
    let e : ◌≡◌ {A = ℕ} 1 2 = ap (λ (y : ℕ × List ℕ). y.0) (same_answer _ _ (sym a.1 ∙ one_counted)) in
    omega arith

one_size : length (converted storage if2 0 (no_data_frame ∷ [])) ≤ 1
unfolding write_recording layout header odd digits num bits packs pack
one_size = omega arith

one_refused : wants_one_more 3 2 0 one 1 ≡ refused_at 10 0 0
unfolding convert_call conversion read_recording read_with write_recording layout header odd digits num bits packs pack known core_bits octets frame_in spare_clear fields_good crc_good
one_refused = refl

pub wants-one-more-refused : ConvertsFrames wants_one_more → ⊥
wants-one-more-refused d =
    let a = d.writes storage if2 0 (omega arith) one (no_data_frame ∷ []) 1 one_octets one_read (omega (arith, one_size)) one_size in
    not_done 10 0 0 _ (sym one_refused ∙ a.1)

-- a SID frame, and the one with the other d(0)
abbrev sid_frame : Bool → Frame
sid_frame b = frame_by 9 1 0 0 (b ∷ replicate 39 false)

abbrev sid : List ℕ
sid = file_header storage ++ (0x4C ∷ 0x00 ∷ 0x00 ∷ 0x00 ∷ 0x00 ∷ 0x00 ∷ [])

abbrev sid_inverted : List ℕ
sid_inverted = 0x9C ∷ 0x00 ∷ 0x00 ∷ 0x00 ∷ 0x00 ∷ 0x00 ∷ []

sid_octets : Octets sid
unfolding odd digits num bits packs pack
sid_octets = octets_packed sid refl

sid_read : ValidRecording storage sid (sid_frame false ∷ [])
unfolding read_recording read_with odd digits num bits known core_bits octets frame_in spare_clear fields_good crc_good
sid_read = refl

sid_short : length (converted storage if2 0 (sid_frame false ∷ [])) ≤ 99
unfolding write_recording layout header odd digits num bits packs pack
sid_short = omega arith

sid_written : inverts_d0 3 2 0 sid 99 ≡ done (1, sid_inverted)
unfolding read_recording read_with write_recording layout header odd digits num bits packs pack known core_bits octets frame_in spare_clear fields_good crc_good
sid_written = refl

inverted_read : ValidRecording if2 sid_inverted (sid_frame true ∷ [])
unfolding read_recording read_with odd digits num bits known core_bits octets frame_in spare_clear fields_good crc_good
inverted_read = refl

abbrev first_d0 : List Frame → ℕ
first_d0 [] = 0
first_d0 (x ∷ xs) = one_if (get_or x.core 0 false)

sid_kept : map (carried if2 storage 0) (sid_frame false ∷ []) ≢ sid_frame true ∷ []
sid_kept e = let z : ◌≡◌ {A = ℕ} 0 1 = ap first_d0 e in omega arith

pub inverts-d0-refused : ConvertsFrames inverts_d0 → ⊥
inverts-d0-refused =
    other_frames inverts_d0 storage if2 sid sid_inverted (sid_frame false ∷ []) (sid_frame true ∷ []) sid_octets sid_read sid_short sid_written inverted_read sid_kept
