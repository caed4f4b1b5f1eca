-- Three readers of recordings that are none: one that always declines does not show the recording of no frames; the two others are tried on a
-- frame without data with a reserved type behind it, which is refused by 2 at frame 1 and octet 1. Assumes nothing.
use mathlib.Core.Path.{◌≡◌, refl, sym, ◌∙◌}
use mathlib.Core.List.{List, [], ◌∷◌}
use Prim.Native.Nat.{ℕ}
use native.Mathlib.Omega.{arith}
use Rattle.bits.specs.Bits.{Octets, odd, digits, num, bits, packs, pack}
use Rattle.definitions.specs.Frames.{Format, if2, Frame, known, core_bits, octets, frame_in, spare_clear, fields_good, crc_good}
use Rattle.definitions.specs.Reading.{read_with}
use Rattle.definitions.specs.Cases.{no_data_frame}
use Rattle.recordings.specs.Placed.{refused_at, done}
use Rattle.recordings.specs.Recordings.{read_recording, write_recording}
use Rattle.recordings.specs.Claims.{none, RecordingReader, ReadsRecordings}
use Rattle.recordings.specs.WrongRecordingReaders.{ends_at_refused, names_no_place, WrongRecordingReaders}
use Rattle.recordings.proofs.Scan.{not_done}
use Rattle.recordings.proofs.Claims.{reads_recordings, readers_agree}
use Rattle.recordings.proofs.Trips.{octets_packed}

declines : (read : RecordingReader) → ((f : Format) (s : List ℕ) (xs : List Frame) → read f s ≡ done xs → ⊥) → ReadsRecordings read → ⊥
unfolding write_recording odd digits num bits packs pack
declines read d r = d if2 [] [] ((r.exactly if2 [] [] (octets_packed [] refl)).1 (record { valid = none; laid = refl; within = omega arith }))

abbrev stopped : List ℕ
stopped = 0xF8 ∷ 0xA0 ∷ []

stopped_octets : Octets stopped
unfolding odd digits num bits packs pack
stopped_octets = octets_packed stopped refl

stopped_read : read_recording if2 stopped ≡ refused_at 2 1 1
unfolding read_recording read_with odd digits num bits known core_bits octets frame_in spare_clear fields_good crc_good
stopped_read = refl

-- a reader of recordings refuses it as the definition does
as_defined : (read : RecordingReader) → ReadsRecordings read → read if2 stopped ≡ refused_at 2 1 1
as_defined read r = readers_agree.same read read_recording r reads_recordings if2 stopped stopped_octets ∙ stopped_read

ends_there : ends_at_refused if2 stopped ≡ done (no_data_frame ∷ [])
unfolding read_recording read_with odd digits num bits known core_bits octets frame_in spare_clear fields_good crc_good
ends_there = refl

no_place_there : names_no_place if2 stopped ≡ refused_at 2 0 0
unfolding read_recording read_with odd digits num bits known core_bits octets frame_in spare_clear fields_good crc_good
no_place_there = refl

pub wrong_readers : WrongRecordingReaders
wrong_readers = record {
  declines = declines;
  ends = λ r. not_done 2 1 1 (no_data_frame ∷ []) (sym (as_defined ends_at_refused r) ∙ ends_there);
  no_place = λ r. (let e : refused_at 2 1 1 ≡ refused_at 2 0 0 = sym (as_defined names_no_place r) ∙ no_place_there in
      let z : ◌≡◌ {A = ℕ} 1 0 = cc in omega arith);
}
