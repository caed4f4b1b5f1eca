-- What is asked where a recording is written.
use Rattle.std.specs.Prelude.{◌≡◌, List, ℕ, ◌≤◌, length}
use Rattle.definitions.specs.Frames.{Format, Frame}
use Rattle.recordings.specs.Placed.{done}
use Rattle.recordings.specs.Recordings.{limit, read_recording}
use Rattle.recordings.specs.Conversion.{converted}

-- s is the recording of the frames xs, and what a conversion of them writes is within the limit and has room
pub record Convertible (f g : Format) (r : ℕ) (s : List ℕ) (xs : List Frame) (out : List ℕ) : Type 0 where
  pub read : read_recording f s ≡ done xs
  pub within : length (converted f g r xs) ≤ limit
  pub room : length (converted f g r xs) ≤ length out
