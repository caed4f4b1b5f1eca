-- Level one has recordings and frames in IF1 and IF2: format 3 is out of range there, 11, judged first (docs/DECISIONS.md, "Levels").
use Rattle.std.specs.Prelude.{◌&&◌, cond, List, ℕ, leb}
use Rattle.definitions.specs.Outcome.{Outcome, unless}
use Rattle.definitions.specs.Frames.{Frame}
use Rattle.definitions.specs.Reading.{read_call}
use Rattle.recordings.specs.Placed.{Placed, unless_at}
use Rattle.recordings.specs.Recordings.{validate_call}
use Rattle.recordings.specs.Conversion.{convert_call, length_call}
use Rattle.joins_spec.specs.Joined.{Joined, refused_in}
use Rattle.joins_spec.specs.Joining.{merge_call}

abbrev pub validate_one : ℕ → List ℕ → Placed (ℕ × ℕ)
validate_one format s = unless_at 11 (leb format 2) (validate_call format s)

abbrev pub convert_one : (from to request : ℕ) → List ℕ → (room : ℕ) → Placed (ℕ × List ℕ)
convert_one from to request s room = unless_at 11 (leb from 2 && leb to 2) (convert_call from to request s room)

abbrev pub length_one : (from to request : ℕ) → List ℕ → Placed (ℕ × ℕ)
length_one from to request s = unless_at 11 (leb from 2 && leb to 2) (length_call from to request s)

abbrev pub merge_one : (format : ℕ) → (a b : List ℕ) → (room : ℕ) → Joined (ℕ × List ℕ)
merge_one format a b room = cond (leb format 2) (merge_call format a b room) (refused_in 0 11 0 0)

abbrev pub read_one : ℕ → List ℕ → (room : ℕ) → Outcome (Frame × ℕ)
read_one format s room = unless 11 (leb format 2) (read_call format s room)
