-- What the answers of the calls that make one recording of two say, and what they promise of the output buffer.
use Rattle.std.specs.Prelude.{◌≡◌, cond, List, ◌∷◌, ◌++◌, ℕ, ◌+◌, length, take, drop, Result, Ok, Err}
use Rattle.definitions.specs.Frames.{Format, Frame, layout}
use Rattle.definitions.specs.Claims.{Valid}
use Rattle.recordings.specs.Recordings.{layouts}
use Rattle.recordings.specs.Claims.{Every}
use Rattle.frame.specs.Answers.{number_of, format_of}
use Rattle.recording_reader.specs.declared.Counts.{Counts}
use Rattle.recording_reader.specs.declared.RefusedAt.{RefusedAt}
use Rattle.joins_spec.specs.Joined.{Joined, refused_in, made, counted_in, joined_after}
use Rattle.joins_spec.specs.Joining.{is_gap, both_judged}
use Rattle.joins.specs.declared.Both.{Both}
use Rattle.joins.specs.declared.RefusedIn.{RefusedIn}

-- ---- answers

-- a refusal of one of the two recordings
abbrev pub refused_of : (recording : ℕ) → RefusedAt → RefusedIn
refused_of i e = record { recording = i; at = e }

-- what the value says, or the refusal's recording, number, frame and octet
abbrev pub joined_of : {A B : Type 0} → (A → B) → Result A RefusedIn → Joined B
joined_of says (Ok x) = made (says x)
joined_of says (Err e) = refused_in e.recording (number_of e.at.refusal) e.at.frame e.at.octet

-- frames and octets
abbrev pub joined_counts : Result Counts RefusedIn → Joined (ℕ × ℕ)
joined_counts = joined_of (λ c. (c.frames, c.octets))

-- the output buffer is d₀ before the call and d after it
pub record IntoJoined (o : Joined (ℕ × List ℕ)) (d₀ d : List ℕ) (r : Result Counts RefusedIn) : Type 0 where
  pub answer : joined_counts r ≡ counted_in o
  pub buffer : d ≡ joined_after o d₀

-- ---- between the functions

-- the octets w, put into a buffer from octet `to` on; the others stay
abbrev pub put_at : (w : List ℕ) → (to : ℕ) → List ℕ → List ℕ
put_at w to d = take to d ++ (w ++ drop (to + length w) d)

-- s are the octets of the valid frames xs, one behind the other
pub record Body (f : Format) (s : List ℕ) (xs : List Frame) : Type 0 where
  pub valid : Every (Valid f) xs
  pub laid : s ≡ layouts f xs

-- a slot that both a and b have: z is its frame's layout, and a' and b' are what is behind it in each
pub record NextSlot (f : Format) (a b z a' b' : List ℕ) : Type 0 where
  pub u : Frame
  pub v : Frame
  pub us : List Frame
  pub vs : List Frame
  pub in_first : Body f a (u ∷ us)
  pub in_second : Body f b (v ∷ vs)
  pub behind_first : Body f a' us
  pub behind_second : Body f b' vs
  pub chosen : z ≡ layout f (cond (is_gap u) v u)

-- format and frames of two recordings, the first judged whole before the second
abbrev pub both_read : (format : ℕ) → (a b : List ℕ) → Joined (Format × ℕ × ℕ)
both_read format a b = both_judged format a b (λ f xs ys. made (f, length xs, length ys))

abbrev pub both_of : Result Both RefusedIn → Joined (Format × ℕ × ℕ)
both_of = joined_of (λ b. (format_of b.format, b.first_frames, b.second_frames))
