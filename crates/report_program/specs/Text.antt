-- What the program prints, octet by octet (document 01, "Reception class and report").
use Rattle.std.specs.Prelude.{List, [], ◌∷◌, ◌++◌, ℕ}
use Rattle.definitions.specs.Decimal.{decimal}
use Rattle.recordings.specs.Placed.{Placed, refused_at, done}
use Rattle.recordings.specs.Report.{Report}

-- a label, a number and a line feed
unfoldable pub line : List ℕ → ℕ → List ℕ
line label n = label ++ decimal n ++ (10 ∷ [])

-- the labels in ASCII, each with its =
abbrev pub «format=» : List ℕ
«format=» = 0x66 ∷ 0x6F ∷ 0x72 ∷ 0x6D ∷ 0x61 ∷ 0x74 ∷ 0x3D ∷ []

abbrev pub «octets=» : List ℕ
«octets=» = 0x6F ∷ 0x63 ∷ 0x74 ∷ 0x65 ∷ 0x74 ∷ 0x73 ∷ 0x3D ∷ []

abbrev pub «frames=» : List ℕ
«frames=» = 0x66 ∷ 0x72 ∷ 0x61 ∷ 0x6D ∷ 0x65 ∷ 0x73 ∷ 0x3D ∷ []

abbrev pub «speech=» : List ℕ
«speech=» = 0x73 ∷ 0x70 ∷ 0x65 ∷ 0x65 ∷ 0x63 ∷ 0x68 ∷ 0x3D ∷ []

abbrev pub «comfort=» : List ℕ
«comfort=» = 0x63 ∷ 0x6F ∷ 0x6D ∷ 0x66 ∷ 0x6F ∷ 0x72 ∷ 0x74 ∷ 0x3D ∷ []

abbrev pub «lost=» : List ℕ
«lost=» = 0x6C ∷ 0x6F ∷ 0x73 ∷ 0x74 ∷ 0x3D ∷ []

abbrev pub «empty=» : List ℕ
«empty=» = 0x65 ∷ 0x6D ∷ 0x70 ∷ 0x74 ∷ 0x79 ∷ 0x3D ∷ []

abbrev pub «refusal=» : List ℕ
«refusal=» = 0x72 ∷ 0x65 ∷ 0x66 ∷ 0x75 ∷ 0x73 ∷ 0x61 ∷ 0x6C ∷ 0x3D ∷ []

abbrev pub «frame=» : List ℕ
«frame=» = 0x66 ∷ 0x72 ∷ 0x61 ∷ 0x6D ∷ 0x65 ∷ 0x3D ∷ []

abbrev pub «octet=» : List ℕ
«octet=» = 0x6F ∷ 0x63 ∷ 0x74 ∷ 0x65 ∷ 0x74 ∷ 0x3D ∷ []

-- the lines of a report, or those of a refused recording
unfoldable pub report_text : Placed Report → List ℕ
report_text (done r) =
    line «format=» 3 ++ line «octets=» r.octets ++ line «frames=» r.frames ++ line «speech=» r.speech ++ line «comfort=» r.sid ++ line «lost=» r.speech_lost ++ line «empty=» r.no_data
report_text (refused_at n frame octet) = line «refusal=» n ++ line «frame=» frame ++ line «octet=» octet
