-- What a call that reads a frame promises of its answer and of the core's buffer, and what the fast path for frames without mode fields finds.
use Rattle.std.specs.Prelude.{◌≡◌, Bool, true, false, List, ℕ, ◌≤◌, length, drop, Result, Ok, Err}
use Rattle.bits.specs.Bits.{num, bits}
use Rattle.definitions.specs.Outcome.{Outcome, refused}
use Rattle.definitions.specs.Frames.{Format, highest_mode, sid_type, sid_mode_at, Frame, known, octets, carries_modes, type_in, core_in, spare_clear}
use Rattle.definitions.specs.Reading.{read_with, core_after, buffer_core}
use Rattle.frame.specs.Answers.{format_of, number_of, reading_of}
use Rattle.frame.specs.declared.Refusal.{Refusal}
use Rattle.frame.specs.declared.Format.{Format as CodeFormat}
use Rattle.frame.specs.declared.FrameHeader.{FrameHeader}
use Rattle.frame_tests.specs.declared.FrameOctets.{FrameOctets}

-- the buffer is d₀ before the call and d after it
pub record IntoCore (o : Outcome (Frame × ℕ)) (d₀ d : List ℕ) (r : Result (FrameHeader × ℕ) Refusal) : Type 0 where
  pub answer : reading_of (buffer_core d) r ≡ o
  pub buffer : d ≡ core_after o d₀

-- the frame stands whole at the start of the octets, or each reader refuses it by one of its first three tests
abbrev pub Fronts : CodeFormat → List ℕ → Result FrameOctets Refusal → Type 0
Fronts f s (Ok x) = (x.format ≡ f) × (x.s.now ≡ s)
Fronts f s (Err e) = (single : Bool) → refused (number_of e) ≡ read_with single (format_of f) s

-- the n octets in front are a valid frame that carries no modes
pub record Plain (f : Format) (s : List ℕ) (n : ℕ) : Type 0 where
  pub some : 1 ≤ length s
  pub type_known : known (type_in f (bits s)) ≡ true
  pub no_modes : carries_modes f (type_in f (bits s)) ≡ false
  pub size : n ≡ octets f (type_in f (bits s))
  pub enough : n ≤ length s
  pub spare : spare_clear f (bits s) ≡ true
  pub sid : type_in f (bits s) ≡ sid_type → num 4 (drop sid_mode_at (core_in f (type_in f (bits s)) (bits s))) ≤ highest_mode
