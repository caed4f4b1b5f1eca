-- Programs that make one error each of document 01's "Errors met in the field", and answer all else as they should. No definition cites them,
-- and the bench cases are refuted of each.
use Rattle.std.specs.Prelude.{cond, [], ◌∷◌, ◌++◌, ◌*◌, reverse, get_or, take, drop, eqb}
use Rattle.bits.specs.Bits.{octets_for, pack}
use Rattle.parity.specs.Crc.{crc}
use Rattle.definitions.specs.Frames.{Format, if1, if2, storage, sid_type, sid_mode_at, Frame, frame_by, class_a, layout}
use Rattle.definitions.specs.Order.{order_table}
use Rattle.definitions.specs.Cases.{crc_octet, octets_of, first_octets, sources, one_frame, numbers}
use Rattle.definitions.specs.Bench.{Answerer, bench_answer}

-- "the comfort mode written low bit first"
abbrev pub mode_reversed : Frame → Frame
mode_reversed x = frame_by x.type x.quality x.indication x.request (cond (eqb x.type sid_type) (take sid_mode_at x.core ++ reverse (drop sid_mode_at x.core)) x.core)

abbrev pub mode_low_bit_first : Answerer
mode_low_bit_first (octets_of f x) = numbers (layout f (mode_reversed x))
mode_low_bit_first q = bench_answer q

-- "a CRC over whole octets, taking two Class B bits into type 0"
abbrev pub crc_of_whole_octets : Answerer
crc_of_whole_octets (crc_octet x) = numbers (pack (crc (take (8 * octets_for (class_a x.type)) x.core)))
crc_of_whole_octets q = bench_answer q

-- "IF2's five-bit header used in stored files"
abbrev pub stored_as_if2 : Format → Format
stored_as_if2 if1 = if1
stored_as_if2 if2 = if2
stored_as_if2 storage = if2

abbrev pub if2_header_stored : Answerer
if2_header_stored (octets_of f x) = bench_answer (octets_of (stored_as_if2 f) x)
if2_header_stored (first_octets n f x) = bench_answer (first_octets n (stored_as_if2 f) x)
if2_header_stored (one_frame format s) = bench_answer (one_frame (cond (eqb format 3) 2 format) s)
if2_header_stored q = bench_answer q

-- "table numbers used without the added 1": d(j) = s(table(j))
abbrev pub no_added_one : Answerer
no_added_one (sources m j) = numbers (get_or (order_table m) j 0 ∷ [])
no_added_one q = bench_answer q
