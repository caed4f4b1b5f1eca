-- The report that counts a lost frame before it reads is tried on the recording of no frames, and the one that counts every frame as speech on
-- the recording of one frame without data: their counts are not those of the frames. Assumes nothing.
use mathlib.Core.Path.{◌≡◌, refl, sym, ap, ◌∙◌}
use mathlib.Core.List.{List, [], ◌∷◌, ◌++◌}
use Prim.Native.Nat.{ℕ}
use native.Mathlib.Omega.{arith}
use Rattle.bits.specs.Bits.{Octets, odd, digits, num, bits, packs, pack}
use Rattle.definitions.specs.Frames.{storage, known, core_bits, octets, frame_in, spare_clear, fields_good, crc_good}
use Rattle.definitions.specs.Reading.{read_with}
use Rattle.definitions.specs.Cases.{no_data_frame}
use Rattle.recordings.specs.Placed.{Placed, refused_at, done}
use Rattle.recordings.specs.Recordings.{file_header, read_recording}
use Rattle.recordings.specs.Claims.{IsRecording}
use Rattle.recordings.specs.Report.{Report, report_call}
use Rattle.recordings.specs.ReportClaims.{Reports}
use Rattle.recordings.specs.WrongReports.{lost_before_reading, counts_as_speech}
use Rattle.recordings.proofs.Claims.{reads_recordings}
use Rattle.recordings.proofs.Trips.{octets_packed}

frames_in : Placed Report → ℕ
frames_in (refused_at n k at) = 0
frames_in (done r) = r.frames

speech_in : Placed Report → ℕ
speech_in (refused_at n k at) = 0
speech_in (done r) = r.speech

-- the file header alone
empty_octets : Octets (file_header storage)
unfolding odd digits num bits packs pack
empty_octets = octets_packed (file_header storage) refl

empty_is : IsRecording storage (file_header storage) []
unfolding read_recording
empty_is = (reads_recordings.exactly storage (file_header storage) [] empty_octets).0 refl

empty_lost : frames_in (lost_before_reading (file_header storage)) ≡ 1
unfolding report_call read_recording frames_in
empty_lost = refl

pub lost_before_reading_lem : Reports lost_before_reading → ⊥
unfolding frames_in
lost_before_reading_lem r =
    let z : ◌≡◌ {A = ℕ} 1 0 =
    sym empty_lost ∙ ap frames_in (r.counts (file_header storage) [] empty_octets (omega arith) empty_is) in
    omega (arith, z)

-- a frame without data
abbrev one : List ℕ
one = file_header storage ++ (0x7C ∷ [])

one_octets : Octets one
unfolding odd digits num bits packs pack
one_octets = octets_packed one refl

one_read : read_recording storage one ≡ done (no_data_frame ∷ [])
unfolding read_recording read_with odd digits num bits known core_bits octets frame_in spare_clear fields_good crc_good
one_read = refl

one_is : IsRecording storage one (no_data_frame ∷ [])
one_is = (reads_recordings.exactly storage one (no_data_frame ∷ []) one_octets).0 one_read

one_spoken : speech_in (counts_as_speech one) ≡ 1
unfolding report_call speech_in read_recording read_with odd digits num bits known core_bits octets frame_in spare_clear fields_good crc_good
one_spoken = refl

pub counts_as_speech_lem : Reports counts_as_speech → ⊥
unfolding speech_in
counts_as_speech_lem r =
    let z : ◌≡◌ {A = ℕ} 1 0 =
    sym one_spoken ∙ ap speech_in (r.counts one (no_data_frame ∷ []) one_octets (omega arith) one_is) in
    omega (arith, z)
