-- Wrong readers, which the claims refute.
use Rattle.std.specs.Prelude.{◌≡◌, Bool, false, List, ℕ, ◌≤◌, ◌<◌, length, leb}
use Rattle.bits.specs.Bits.{bits, Octets}
use Rattle.definitions.specs.Outcome.{refused, ok, unless}
use Rattle.definitions.specs.Frames.{Format, Frame, known, octets, core_octets, type_in, frame_in, spare_clear, fields_good, crc_good}
use Rattle.definitions.specs.Reading.{format_numbered}
use Rattle.definitions.specs.Claims.{Reader, ReadsFrames, ReadsOneFrame, FrameCall, ReadsCalls}
use Rattle.definitions.specs.Refusals.{refusal_order, FirstOf, type_of, FrameFault, RefusesFrames, RefusesCalls}

-- one that always declines, and one that always shows the same frame, as an empty one
pub record WrongReaders : Type 0 where
  pub declines : (read : Reader) → ((f : Format) (s : List ℕ) (y : Frame × ℕ) → read f s ≡ ok y → ⊥) → ReadsFrames read → ⊥
  pub shows_one : (read : Reader) (x : Frame) (n : ℕ) → ((f : Format) (s : List ℕ) → read f s ≡ ok (x, n)) → ReadsFrames read → ⊥

-- a call for one frame that always declines, and one that shows a frame with octets after it
pub record WrongSingleReaders : Type 0 where
  pub declines : (read : Reader) → ((f : Format) (s : List ℕ) (y : Frame × ℕ) → read f s ≡ ok y → ⊥) → ReadsOneFrame read → ⊥
  pub accepts_more : (read : Reader) (f : Format) (s : List ℕ) (x : Frame) (n : ℕ) → Octets s → n < length s → read f s ≡ ok (x, n) → ReadsOneFrame read → ⊥

-- a reader that judges the CRC before the spare and filling bits
unfoldable pub crc_first : Reader
crc_first f s =
    let bs : List Bool = bits s in
    let t : ℕ = type_in f bs in
    unless 1 (leb 1 (length s))
    (unless 2 (known t)
    (unless 3 (leb (octets f t) (length s))
    (unless 7 (crc_good f bs)
    (unless 5 (spare_clear f bs)
    (unless 6 (fields_good f (frame_in f bs))
    (ok (frame_in f bs, octets f t)))))))

-- any reader that gives 7 where 5 applies is wrong: the one above is, though it shows all frames
pub record WrongRefusals : Type 0 where
  pub seven_for_five : (single : Bool) (read : Reader) (f : Format) (s : List ℕ) → Octets s → FirstOf (FrameFault single f s) refusal_order 5
      → read f s ≡ refused 7 → RefusesFrames single read → ⊥
  pub crc_first_shows : ReadsFrames crc_first
  pub crc_first_refuses : RefusesFrames false crc_first → ⊥

-- a call for one frame that always declines, and one that says "too short" for a buffer that fits
pub record WrongCalls : Type 0 where
  pub declines : (read : FrameCall) → ((format : ℕ) (s : List ℕ) (room : ℕ) (y : Frame × ℕ) → read format s room ≡ ok y → ⊥) → ReadsCalls read → ⊥
  pub buffer_fits : (read : FrameCall) (format : ℕ) (f : Format) (s : List ℕ) (room : ℕ) → Octets s → format_numbered format ≡ ok f
      → core_octets (type_of f s) ≤ room → read format s room ≡ refused 10 → RefusesCalls read → ⊥
