-- What the definitions answer to document 01's bench cases that are marked P, and the claim that these are the printed answers.
use Rattle.std.specs.Prelude.{◌≡◌, Bool, true, false, cond, List, [], ◌∷◌, ◌++◌, map, ℕ, ◌-◌, length, get_or, take, drop, replicate}
use Rattle.definitions.specs.Frames.{if1, core_bits, layout}
use Rattle.definitions.specs.Reading.{read_call}
use Rattle.definitions.specs.Order.{order_table, codec_bit, ordered, numbers_from}
use Rattle.definitions.specs.Cases.{Question, crc_octet, octets_of, first_octets, sources, one_frame, Answer, numbers, call, Case, case, bench_table}

-- k codec bits of which s(n) alone is 1
abbrev pub only_codec_bit : (k n : ℕ) → List Bool
only_codec_bit k n = replicate (n - 1) false ++ (true ∷ replicate (k - n) false)

-- d(j) of the core that the codec bits s of a mode make
abbrev pub ordered_bit : (mode : ℕ) → List Bool → ℕ → Bool
ordered_bit m s j = get_or (ordered (order_table m) s) j false

-- those of the numbers whose codec bit alone makes d(j) 1
abbrev pub sources_in : (mode j : ℕ) → List ℕ → List ℕ
sources_in m j [] = []
sources_in m j (n ∷ ns) = cond (ordered_bit m (only_codec_bit (core_bits m) n) j) (n ∷ sources_in m j ns) (sources_in m j ns)

abbrev pub Answerer : Type 0
Answerer = Question → Answer

-- by the definitions; the CRC is IF1's third octet
abbrev pub bench_answer : Answerer
bench_answer (crc_octet x) = numbers (take 1 (drop 2 (layout if1 x)))
bench_answer (octets_of f x) = numbers (layout f x)
bench_answer (first_octets n f x) = numbers (take n (layout f x))
bench_answer (sources m j) = numbers (sources_in m j (numbers_from 1 (core_bits m)))
bench_answer (one_frame format s) = call (read_call format s 0)

abbrev pub answered : Answerer → Case → Answer
answered a (case q p) = a q

abbrev pub printed : Case → Answer
printed (case q p) = p

-- there are thirteen cases, and each is answered as printed
pub record BenchCases (a : Answerer) : Type 0 where
  pub thirteen : length bench_table ≡ 13
  pub each : map (answered a) bench_table ≡ map printed bench_table

-- the cases of codec order of every row, and not only of rows with one bit 1
pub record BenchRows : Type 0 where
  pub mode3_d3 : (s : List Bool) → ordered_bit 3 s 3 ≡ codec_bit s 102
  pub mode3_d284 : (s : List Bool) → ordered_bit 3 s 284 ≡ codec_bit s 278
  pub mode4_d316 : (s : List Bool) → ordered_bit 4 s 316 ≡ codec_bit s 310
