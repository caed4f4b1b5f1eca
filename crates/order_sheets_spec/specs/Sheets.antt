-- The text of a sheet (document 02, h): the ordering table that a user supplies for one of the modes 5 to 8, as lines in ASCII.
use Rattle.std.specs.Prelude.{Bool, true, false, ◌&&◌, cond, List, [], ◌∷◌, ◌++◌, ℕ, zero, suc, ◌+◌, ◌-◌, ◌*◌, length, drop, eqb, leb, ltb}
use Rattle.definitions.specs.Outcome.{Outcome, refused, ok, unless, and_then}
use Rattle.definitions.specs.Decimal.{decimal}
use Rattle.definitions.specs.Frames.{highest_mode, core_bits}
use Rattle.definitions.specs.Order.{highest_tabled_mode, none_missing}

-- ---- the text of a table

abbrev pub «mode=» : List ℕ
«mode=» = 0x6D ∷ 0x6F ∷ 0x64 ∷ 0x65 ∷ 0x3D ∷ []

abbrev pub «bits=» : List ℕ
«bits=» = 0x62 ∷ 0x69 ∷ 0x74 ∷ 0x73 ∷ 0x3D ∷ []

abbrev pub «d» : List ℕ
«d» = 0x64 ∷ []

abbrev pub equals : ℕ
equals = 0x3D

abbrev pub line_feed : ℕ
line_feed = 0x0A

-- a word, a number and the octet that ends the number, in front of what follows
abbrev pub field_text : (word : List ℕ) → ℕ → (end : ℕ) → List ℕ → List ℕ
field_text word n end s = word ++ (decimal n ++ (end ∷ s))

-- the lines of d(j) and on, "in order", in front of what follows
abbrev pub lines_text : (j : ℕ) → (table : List ℕ) → List ℕ → List ℕ
lines_text j [] s = s
lines_text j (n ∷ table) s = field_text «d» j equals (field_text [] n line_feed (lines_text (suc j) table s))

-- "lines: `mode=5`, `bits=365`, then `d0=0`, `d1=4` .. and so on": nothing follows
unfoldable pub sheet_text : (mode : ℕ) → (table : List ℕ) → List ℕ
sheet_text mode table = field_text «mode=» mode line_feed (field_text «bits=» (length table) line_feed (lines_text 0 table []))

-- ---- reading it: what stands at the front of the text, with the text behind it

abbrev pub is_digit : ℕ → Bool
is_digit c = leb 48 c && leb c 57

-- after digits of value v, more digits up to `end`; "no leading zeros": no digit stands behind a first 0
unfoldable pub digits : (end v : ℕ) → List ℕ → Outcome (ℕ × List ℕ)
digits end v [] = refused 23
digits end v (c ∷ s) = cond (eqb c end) (ok (v, s)) (unless 23 (is_digit c && leb 1 v) (digits end (10 * v + (c - 48)) s))

-- a number of one digit or more, however large, up to `end`
unfoldable pub number : (end : ℕ) → List ℕ → Outcome (ℕ × List ℕ)
number end [] = refused 23
number end (c ∷ s) = unless 23 (is_digit c) (digits end (c - 48) s)

unfoldable pub begins : (word s : List ℕ) → Bool
begins [] s = true
begins (w ∷ word) [] = false
begins (w ∷ word) (c ∷ s) = eqb c w && begins word s

unfoldable pub field : (word : List ℕ) → (end : ℕ) → List ℕ → Outcome (ℕ × List ℕ)
field word end s = unless 23 (begins word s) (number end (drop (length word) s))

-- the line of d(j)
unfoldable pub line : (j : ℕ) → List ℕ → Outcome (ℕ × List ℕ)
line j s = and_then (field «d» equals s) (λ i. unless 23 (eqb i.0 j) (number line_feed i.1))

-- n lines, from that of d(j) on
unfoldable pub lines : (j n : ℕ) → List ℕ → Outcome (List ℕ × List ℕ)
lines j zero s = ok ([], s)
lines j (suc n) s = and_then (line j s) (λ x. and_then (lines (suc j) n x.1) (λ t. ok (x.0 ∷ t.0, t.1)))

-- the first two lines; "23 when .. the mode is not 5 to 8 or the bits are not its K"
unfoldable pub head : List ℕ → Outcome (ℕ × List ℕ)
head s =
    and_then (field «mode=» line_feed s) (λ m.
    unless 23 (ltb highest_tabled_mode m.0 && leb m.0 highest_mode)
    (and_then (field «bits=» line_feed m.1) (λ k.
    unless 23 (eqb k.0 (core_bits m.0))
    (ok (m.0, k.1)))))

-- mode and table of a text that has the form of a sheet
unfoldable pub sheet_form : List ℕ → Outcome (ℕ × List ℕ)
sheet_form s =
    and_then (head s) (λ h.
    and_then (lines 0 (core_bits h.0) h.1) (λ t.
    unless 23 (eqb (length t.1) 0)
    (ok (h.0, t.0))))

-- ---- the call

-- mode and table of a sheet that goes into a row of room numbers: 23; "24 when some number below K is missing, however large the one in its place,
-- after 23"; 10
unfoldable pub sheet_call : List ℕ → (room : ℕ) → Outcome (ℕ × List ℕ)
sheet_call text room =
    and_then (sheet_form text) (λ y.
    unless 24 (none_missing (core_bits y.0) y.1)
    (unless 10 (leb (core_bits y.0) room)
    (ok y)))
