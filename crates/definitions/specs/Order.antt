-- Codec order (document 01, "Codec order"; TS 26.201, 4.2.1 and annex B; document 02, h).
use Rattle.std.specs.Prelude.{Bool, true, false, ◌&&◌, ◌||◌, cond, List, [], ◌∷◌, map, ℕ, zero, suc, ◌+◌, ◌-◌, length, get_or, eqb, leb}
use Rattle.bits.specs.Bits.{one_if, pack}
use Rattle.definitions.specs.Outcome.{Outcome, ok, unless}
use Rattle.definitions.specs.Frames.{highest_mode, core_bits, core_octets}
use Rattle.definitions.specs.Reading.{buffer_core, core_fill_clear}
use Rattle.definitions.specs.Tables.{table0, table1, table2, table3, table4}

-- "modes 5 to 8 have frames but no codec order": their tables are not document 01's
abbrev pub highest_tabled_mode : ℕ
highest_tabled_mode = 4

-- table_m
unfoldable pub order_table : ℕ → List ℕ
order_table zero = table0
order_table (suc zero) = table1
order_table (suc (suc zero)) = table2
order_table (suc (suc (suc zero))) = table3
order_table (suc (suc (suc (suc zero)))) = table4
order_table (suc (suc (suc (suc (suc m))))) = []

-- ---- the codec bits, s(1) to s(K), in encoder order

-- s(n)
abbrev pub codec_bit : List Bool → ℕ → Bool
codec_bit s n = get_or s (n - 1) false

-- document 01's row: "one octet of 0 or 1 for each bit"
abbrev pub zero_or_one : List ℕ → Bool
zero_or_one [] = true
zero_or_one (o ∷ row) = leb o 1 && zero_or_one row

abbrev pub row_bits : List ℕ → List Bool
row_bits row = map (eqb 1) row

abbrev pub row_octets : List Bool → List ℕ
row_octets s = map one_if s

-- ---- codec bits and core, by a table

-- d(j) = s(table(j)+1)
unfoldable pub ordered : List ℕ → List Bool → List Bool
ordered table s = map (λ n. codec_bit s (n + 1)) table

-- where the table has n
abbrev pub place_of : ℕ → List ℕ → ℕ
place_of n [] = 0
place_of n (t ∷ table) = cond (eqb n t) 0 (suc (place_of n table))

-- the k numbers from n on
abbrev pub numbers_from : (n k : ℕ) → List ℕ
numbers_from n zero = []
numbers_from n (suc k) = n ∷ numbers_from (suc n) k

-- back: s(n+1) is the d(j) where table(j) is n
unfoldable pub unordered : List ℕ → List Bool → List Bool
unordered table d = map (λ n. get_or d (place_of n table) false) (numbers_from 0 (length table))

-- ---- the table of a mode

-- document 02, h: for the modes 5 to 8 the user supplies the table, a sheet; "Modes 0 to 4 leave it unread"
abbrev pub table_for : (mode : ℕ) → (sheet : List ℕ) → List ℕ
table_for mode sheet = cond (leb mode highest_tabled_mode) (order_table mode) sheet

-- how many times a table has n
abbrev pub times : ℕ → List ℕ → ℕ
times n [] = 0
times n (t ∷ table) = one_if (eqb n t) + times n table

-- no number below k is missing
abbrev pub none_missing : (k : ℕ) → List ℕ → Bool
none_missing zero table = true
none_missing (suc n) table = leb 1 (times n table) && none_missing n table

-- a sheet, "In modes 5 to 8 it is judged as well": "11 for a length other than K or 0"; "12 is given only where no sheet is lent, that is, the row
-- is empty"; "24 when some number below K is missing"
abbrev pub sheet_sized : (mode : ℕ) → (sheet : List ℕ) → Bool
sheet_sized mode sheet = leb mode highest_tabled_mode || (eqb (length sheet) (core_bits mode) || eqb (length sheet) 0)

abbrev pub sheet_lent : (mode : ℕ) → (sheet : List ℕ) → Bool
sheet_lent mode sheet = leb mode highest_tabled_mode || leb 1 (length sheet)

abbrev pub sheet_complete : (mode : ℕ) → (sheet : List ℕ) → Bool
sheet_complete mode sheet = leb mode highest_tabled_mode || none_missing (core_bits mode) sheet

-- ---- the calls

-- from the row to the packed core in room octets: 11 a mode above 8, a sheet of another length, another length of the row or another value than 0
-- and 1; 12; "24 in 12's place"; 10
unfoldable pub to_core_call : (mode : ℕ) → (sheet row : List ℕ) → (room : ℕ) → Outcome (List ℕ)
to_core_call mode sheet row room =
    unless 11 (leb mode highest_mode && (sheet_sized mode sheet && (eqb (length row) (core_bits mode) && zero_or_one row)))
    (unless 12 (sheet_lent mode sheet)
    (unless 24 (sheet_complete mode sheet)
    (unless 10 (leb (core_octets mode) room)
    (ok (pack (ordered (table_for mode sheet) (row_bits row)))))))

-- from the packed core to the row in room octets: 11 a mode above 8, a sheet of another length or another length of the core; 5 as in a call that
-- builds a frame; 12; 24; 10
unfoldable pub to_row_call : (mode : ℕ) → (sheet core : List ℕ) → (room : ℕ) → Outcome (List ℕ)
to_row_call mode sheet core room =
    unless 11 (leb mode highest_mode && (sheet_sized mode sheet && eqb (length core) (core_octets mode)))
    (unless 5 (core_fill_clear mode core)
    (unless 12 (sheet_lent mode sheet)
    (unless 24 (sheet_complete mode sheet)
    (unless 10 (leb (core_bits mode) room)
    (ok (row_octets (unordered (table_for mode sheet) (buffer_core core mode))))))))
