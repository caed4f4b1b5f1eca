-- The bench cases hold by computation: the answers and the printed ones are closed terms. Assumes nothing.
use mathlib.Core.Path.{refl}
use mathlib.Core.Bool.{xor}
use Rattle.bits.specs.Bits.{odd, digits, num, bits, packs, pack}
use Rattle.parity.specs.Crc.{crc, divide, add_front}
use Rattle.definitions.specs.Frames.{known, core_bits, class_a, octets, header, layout, frame_in, spare_clear, fields_good, crc_good}
use Rattle.definitions.specs.Reading.{read_with, read_call}
use Rattle.definitions.specs.Tables.{table3, table4}
use Rattle.definitions.specs.Order.{order_table, ordered}
use Rattle.definitions.specs.Bench.{bench_answer, BenchCases, BenchRows}

pub bench_cases : BenchCases bench_answer
unfolding odd digits num bits packs pack crc divide add_front xor known core_bits class_a octets header layout frame_in spare_clear fields_good crc_good read_with read_call table3 table4 order_table ordered
bench_cases = record { thirteen = refl; each = refl }

pub bench_rows : BenchRows
unfolding table3 table4 order_table ordered
bench_rows = record { mode3_d3 = λ s. refl; mode3_d284 = λ s. refl; mode4_d316 = λ s. refl }
