-- Two recordings whose frames differ in d(0), d(1) and d(25): the three bits together leave the CRC as it is, so both are valid. They are computed.
-- Assumes nothing.
use mathlib.Core.Path.{◌≡◌, refl, ap}
use mathlib.Core.Bool.{xor}
use mathlib.Core.List.{[], ◌∷◌}
use Prim.Native.Nat.{ℕ}
use native.Mathlib.Omega.{arith}
use lib.ListN.{get_or}
use Rattle.bits.specs.Bits.{odd, digits, num, bits, packs, pack}
use Rattle.parity.specs.Crc.{crc, divide, add_front}
use Rattle.parity.specs.Places.{differences, count_true}
use Rattle.definitions.specs.Frames.{known, core_bits, class_a, octets, frame_in, spare_clear, fields_good, crc_good}
use Rattle.definitions.specs.Reading.{read_with}
use Rattle.recordings.specs.Recordings.{read_recording}
use Rattle.recordings.specs.ThreeBits.{good_frame, DifferInOneFrame, none_set, three_set, none_set_octets, three_set_octets, ThreeIsSharp}
use Rattle.recordings.proofs.Trips.{octets_packed}

sets_differ : DifferInOneFrame none_set_octets three_set_octets none_set three_set
unfolding odd digits num bits packs pack crc divide add_front xor known core_bits class_a octets frame_in spare_clear fields_good crc_good read_with read_recording
sets_differ = record {
  first_octets = octets_packed none_set_octets refl;
  second_octets = octets_packed three_set_octets refl;
  first_valid = refl;
  second_valid = refl;
  unequal = λ e. (let z : ◌≡◌ {A = ℕ} 0x00 0xC0 = ap (λ s. get_or s 3 0) e in omega arith);
  only_guarded = record { as_many = refl; in_front = refl; behind = refl };
}

pub three_is_sharp : ThreeIsSharp
unfolding odd digits bits class_a differences count_true xor
three_is_sharp = record {
  differ = sets_differ;
  three = refl;
  apart = λ c demand a b core core' d.
      demand.apart a b [] (good_frame core) [] (good_frame core' ∷ []) d.first_octets d.second_octets d.first_valid d.second_valid d.unequal d.only_guarded;
}
