-- Each error met in the field shows in one bench case: a number that its program answers there is not the printed one. Assumes nothing.
use mathlib.Core.Path.{◌≡◌, ap}
use mathlib.Core.Bool.{xor}
use mathlib.Core.List.{List, []}
use Prim.Native.Nat.{ℕ}
use native.Mathlib.Omega.{arith}
use lib.ListN.{get_or}
use Rattle.bits.specs.Bits.{odd, digits, num, packs, pack}
use Rattle.parity.specs.Crc.{crc, divide, add_front}
use Rattle.definitions.specs.Frames.{class_a, header, layout}
use Rattle.definitions.specs.Tables.{table3}
use Rattle.definitions.specs.Order.{order_table}
use Rattle.definitions.specs.Cases.{Answer, numbers, call}
use Rattle.definitions.specs.Bench.{BenchCases}
use Rattle.definitions.specs.WrongAnswerers.{mode_low_bit_first, crc_of_whole_octets, if2_header_stored, no_added_one}

-- the k-th number of an answer
abbrev number : ℕ → Answer → ℕ
number k (numbers l) = get_or l k 0
number k (call r) = 0

-- that of the i-th answer
abbrev number_of : ℕ → ℕ → List Answer → ℕ
number_of i k l = number k (get_or l i (numbers []))

-- the last octet of the SID frame
pub mode_low_bit_first_lem : BenchCases mode_low_bit_first → ⊥
unfolding odd digits num packs pack crc divide add_front xor class_a header layout
mode_low_bit_first_lem c =
    let e : ◌≡◌ {A = ℕ} 0x1C 0x13 = ap (number_of 4 7) c.each in omega arith

-- the CRC for d(54), a Class B bit
pub crc_of_whole_octets_lem : BenchCases crc_of_whole_octets → ⊥
unfolding odd digits num packs pack crc divide add_front xor class_a header layout
crc_of_whole_octets_lem c =
    let e : ◌≡◌ {A = ℕ} 0xE2 0 = ap (number_of 3 0) c.each in omega arith

-- the first octet of a stored frame
pub if2_header_stored_lem : BenchCases if2_header_stored → ⊥
unfolding odd digits num packs pack crc divide add_front xor class_a header layout
if2_header_stored_lem c =
    let e : ◌≡◌ {A = ℕ} 0x0C 0x04 = ap (number_of 9 0) c.each in omega arith

-- d(3) of mode 3
pub no_added_one_lem : BenchCases no_added_one → ⊥
unfolding table3 order_table
no_added_one_lem c =
    let e : ◌≡◌ {A = ℕ} 101 102 = ap (number_of 5 0) c.each in omega arith
