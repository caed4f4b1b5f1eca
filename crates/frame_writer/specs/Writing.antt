-- What is asked where a frame is written.
use Rattle.std.specs.Prelude.{◌≡◌, true, List, ℕ, ◌+◌, ◌*◌, ◌^◌, ◌<◌, ◌≤◌, length, take, drop}
use Rattle.bits.specs.Bits.{bits}
use Rattle.definitions.specs.Frames.{Format, Frame, known, core_bits, octets}
use Rattle.frame.specs.Answers.{frame_with}
use Rattle.frame.specs.declared.FrameHeader.{FrameHeader}

-- the frame of a header whose core stands in octets from a bit on
abbrev pub run_frame : FrameHeader → List ℕ → ℕ → Frame
run_frame h src from = frame_with h (take (core_bits h.frame_type) (drop from (bits src)))

-- what is asked where a frame is written: its fields have their bits, the core is there, and the output has room
pub record Writable (f : Format) (h : FrameHeader) (src : List ℕ) (from : ℕ) (out : List ℕ) : Type 0 where
  pub type_known : known h.frame_type ≡ true
  pub quality_bit : h.quality < 2
  pub indication_bits : h.indication < 16
  pub request_bits : h.request < 16
  pub core_there : from + core_bits h.frame_type ≤ 8 * length src
  pub core_near : from + core_bits h.frame_type < 2 ^ 32
  pub room : octets f h.frame_type ≤ length out
