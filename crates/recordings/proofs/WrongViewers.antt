-- The viewer that goes on behind a refused frame, the one that shows every second frame, and the one that hands on number 0 are none: each is
-- tried on a recording of two octets. Assumes nothing.
use mathlib.Core.Path.{◌≡◌, refl, sym, ap, ◌∙◌}
use mathlib.Core.List.{List, [], ◌∷◌, ◌++◌, map}
use Prim.Native.Nat.{ℕ}
use native.Mathlib.Omega.{arith}
use lib.ListN.{take, replicate}
use Rattle.bits.specs.Bits.{Octets, odd, digits, num, bits, packs, pack}
use Rattle.definitions.specs.Frames.{if2, Frame, known, core_bits, octets, frame_in, spare_clear, fields_good, crc_good}
use Rattle.definitions.specs.Reading.{read_with}
use Rattle.definitions.specs.Cases.{no_data_frame}
use Rattle.recordings.specs.Placed.{done}
use Rattle.recordings.specs.Recordings.{read_recording, write_recording}
use Rattle.recordings.specs.Claims.{none, IsRecording, StopsAt}
use Rattle.recordings.specs.Viewer.{shows, open_call, next_call}
use Rattle.recordings.specs.ViewerClaims.{Stepper, Handed, frame, the_end, refusal, in_turn, Hands, ViewsRecordings}
use Rattle.recordings.specs.WrongViewers.{passes_refused, skips_frames, numbers_none}
use Rattle.recordings.proofs.Claims.{reads_recordings}
use Rattle.recordings.proofs.Trips.{octets_packed}

-- the viewer starts at the front
at_front : (p q : ℕ × ℕ) → done p ≡ done q → p ≡ q
at_front p q e = cc

starts : (next : Stepper) (s : List ℕ) (xs : List Frame) (last : Handed) → open_call 2 s ≡ done (0, 0) → Hands open_call next if2 s xs last
    → (m : ℕ) → in_turn (λ p. next 2 p.1 p.0 s) m (0, 0) ≡ take m (map frame xs ++ replicate m last)
starts next s xs last o h m =
    ap (in_turn (λ p. next 2 p.1 p.0 s) m) (at_front _ _ (sym o ∙ h.opens)) ∙ h.hands m

-- a reserved type, then a frame without data
abbrev reserved : List ℕ
reserved = 0xA0 ∷ 0xF8 ∷ []

reserved_octets : Octets reserved
unfolding odd digits num bits packs pack
reserved_octets = octets_packed reserved refl

reserved_stops : StopsAt if2 reserved 2 0 0
unfolding write_recording read_with odd digits num bits known core_bits octets frame_in spare_clear fields_good crc_good
reserved_stops = record { xs = []; valid = none; number = refl; laid = refl; octet = refl; left = omega arith; refusal = refl }

reserved_opens : open_call 2 reserved ≡ done (0, 0)
unfolding open_call
reserved_opens = refl

reserved_passed : in_turn (λ p. passes_refused 2 p.1 p.0 reserved) 1 (0, 0) ≡ frame no_data_frame ∷ []
unfolding next_call read_with odd digits num bits known core_bits octets frame_in spare_clear fields_good crc_good
reserved_passed = refl

pub passes_refused_lem : ViewsRecordings open_call passes_refused → ⊥
unfolding reserved_stops
passes_refused_lem v =
    let h = v.stopped if2 reserved 2 0 0 reserved_octets (omega arith) reserved_stops in
    let e : frame no_data_frame ∷ [] ≡ refusal 2 0 0 ∷ [] =
    sym reserved_passed ∙ starts passes_refused reserved [] (refusal 2 0 0) reserved_opens h 1 in
    let z : ◌≡◌ {A = ℕ} 0 1 = cc in omega arith

-- two frames without data
abbrev two : List ℕ
two = 0xF8 ∷ 0xF8 ∷ []

two_octets : Octets two
unfolding odd digits num bits packs pack
two_octets = octets_packed two refl

two_read : read_recording if2 two ≡ done (no_data_frame ∷ no_data_frame ∷ [])
unfolding read_recording read_with odd digits num bits known core_bits octets frame_in spare_clear fields_good crc_good
two_read = refl

two_is : IsRecording if2 two (no_data_frame ∷ no_data_frame ∷ [])
two_is = (reads_recordings.exactly if2 two (no_data_frame ∷ no_data_frame ∷ []) two_octets).0 two_read

two_opens : open_call 2 two ≡ done (0, 0)
unfolding open_call
two_opens = refl

two_skipped : in_turn (λ p. skips_frames 2 p.1 p.0 two) 2 (0, 0) ≡ frame no_data_frame ∷ the_end ∷ []
unfolding next_call read_with odd digits num bits known core_bits octets frame_in spare_clear fields_good crc_good
two_skipped = refl

pub skips_frames_lem : ViewsRecordings open_call skips_frames → ⊥
skips_frames_lem v =
    let e : frame no_data_frame ∷ the_end ∷ [] ≡ frame no_data_frame ∷ frame no_data_frame ∷ [] =
    sym two_skipped
    ∙ starts skips_frames two (no_data_frame ∷ no_data_frame ∷ []) the_end two_opens (v.valid if2 two (no_data_frame ∷ no_data_frame ∷ []) two_octets two_is) 2 in
    let z : ◌≡◌ {A = ℕ} 0 1 = cc in omega arith

two_numbered : numbers_none 2 0 0 two ≡ done (shows no_data_frame 0 1)
unfolding next_call read_with odd digits num bits known core_bits octets frame_in spare_clear fields_good crc_good
two_numbered = refl

pub numbers_none_lem : ViewsRecordings open_call numbers_none → ⊥
numbers_none_lem v = let e = (v.shown if2 0 0 two no_data_frame 0 1).0 two_numbered in omega (arith, e.4)
