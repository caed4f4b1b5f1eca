-- What is not a viewer: it shows other frames than the recording has, goes on where the recording stops, or does not count the frames.
use Rattle.std.specs.Prelude.{List, ℕ, suc}
use Rattle.recordings.specs.Placed.{Placed, refused_at, done, and_then_at}
use Rattle.recordings.specs.Viewer.{View, shows, end, next_call}
use Rattle.recordings.specs.ViewerClaims.{Stepper}

-- one that goes on behind a refused frame's first octet
abbrev pub or_else : Placed View → Placed View → Placed View
or_else (refused_at n k at) w = w
or_else (done v) w = done v

abbrev pub passes_refused : Stepper
passes_refused format offset number s = or_else (next_call format offset number s) (next_call format (suc offset) (suc number) s)

-- one that shows every second frame only
abbrev pub frame_behind : (format : ℕ) → List ℕ → View → Placed View
frame_behind format s (shows x number offset) = next_call format offset number s
frame_behind format s end = done end

abbrev pub skips_frames : Stepper
skips_frames format offset number s = and_then_at (next_call format offset number s) (frame_behind format s)

-- one that hands on number 0 with every frame
abbrev pub first_again : View → Placed View
first_again (shows x number offset) = done (shows x 0 offset)
first_again end = done end

abbrev pub numbers_none : Stepper
numbers_none format offset number s = and_then_at (next_call format offset number s) first_again
