-- A call that reads one frame: each step hands on what the definition's next step starts from. Assumes nothing.
use mathlib.Core.Path.{◌≡◌, sym, ap, ap₂, ◌∙◌, subst}
use mathlib.Core.Bool.{Bool, true}
use mathlib.Core.List.{List, ◌++◌}
use Prim.Native.Nat.{ℕ, ◌+◌, ◌/◌, ◌≤◌}
use native.Mathlib.Nat.{zero-add}
use lib.ListN.{length, take, drop}
use borrow.Author.Tests.{le-leb}
use Rattle.bits.specs.Bits.{bits, pack, octets_for}
use Rattle.bits.proofs.BitLaws.{length-pack, take_packed}
use Rattle.definitions.specs.Outcome.{Outcome, refused, ok, unless, and_then}
use Rattle.definitions.specs.Frames.{Frame, known, octets, core_bits, core_octets, core_in}
use Rattle.definitions.specs.Reading.{read_with, format_numbered, into_buffer, read_call, core_after, buffer_core}
use Rattle.definitions.proofs.Frames.{read_known}
use Rattle.frame.specs.Answers.{format_of, number_of, frame_with, reading_of}
use Rattle.frame_reader.specs.Buffer.{IntoCore}
use Rattle.frame.specs.declared.Refusal.{Refusal}
use Rattle.frame.specs.declared.FrameHeader.{FrameHeader}
use Rattle.frame.specs.declared.Format.{Format as CodeFormat}
use Rattle.std.specs.Prelude.{Result, Ok, Err}

-- a refused call leaves the buffer
pub refused-call : (o : Outcome (Frame × ℕ)) (d : List ℕ) (r : Result (FrameHeader × ℕ) Refusal) (e : Refusal) → r ≡ Err e → refused (number_of e) ≡ o → IntoCore o d d r
refused-call o d r e er h = record { answer = ap (reading_of (buffer_core d)) er ∙ h; buffer = ap (λ o. core_after o d) h }

-- `core_out`
module _ (h : FrameHeader) (core : List Bool) (d₀ : List ℕ) (k : ℕ) (ek : k ≡ core_bits h.frame_type) where
  size : core_octets h.frame_type ≡ (k + 7) / 8
  size = ap octets_for (sym ek)

  pub core-written : (d : List ℕ) → (k + 7) / 8 ≤ length d₀ → length core ≡ k → d ≡ pack core ++ drop (octets_for (0 + k)) d₀
      → IntoCore (into_buffer (frame_with h core) (length d₀)) d₀ d (Ok (h, (k + 7) / 8))
  core-written d l lc e =
      let x = frame_with h core in
      let b = le-leb (core_octets h.frame_type) (length d₀) (subst (λ m. m ≤ length d₀) (sym size) l) in
      let o : into_buffer (frame_with h core) (length d₀) ≡ ok (frame_with h core, (k + 7) / 8) =
      ap (λ b. unless 10 b (ok (x, core_octets h.frame_type))) b ∙ ap (λ m. ok (x, m)) size in
      let c : take (core_bits h.frame_type) (bits d) ≡ core =
      ap₂ (λ n l. take n (bits l)) (sym (lc ∙ ek)) e ∙ take_packed core (drop (octets_for (0 + k)) d₀) in
      record {
        answer = ap (λ l. ok (frame_with h l, (k + 7) / 8)) c ∙ sym o;
        buffer = e ∙ ap (λ n. pack core ++ drop n d₀) (ap octets_for (zero-add k ∙ sym lc) ∙ sym (length-pack core)) ∙ sym (ap (λ o. core_after o d₀) o);
      }

-- `read_frame`
module _ (format : ℕ) (s d₀ : List ℕ) where
  pub unknown_format : (r : Result (FrameHeader × ℕ) Refusal) (e : Refusal) → r ≡ Err e → refused (number_of e) ≡ format_numbered format
      → IntoCore (read_call format s (length d₀)) d₀ d₀ r
  unfolding read_call
  unknown_format r e re u =
      refused-call _ d₀ r e re
      (ap (λ o. and_then o (λ f. and_then (read_with true f s) (λ y. into_buffer y.0 (length d₀)))) u)

  module _ (f : CodeFormat) (ef : ok (format_of f) ≡ format_numbered format) where
    -- the call, once the format is known
    call_is : read_call format s (length d₀) ≡ and_then (read_with true (format_of f) s) (λ y. into_buffer y.0 (length d₀))
    unfolding read_call
    call_is = ap (λ o. and_then o (λ f. and_then (read_with true f s) (λ y. into_buffer y.0 (length d₀)))) (sym ef)

    pub refused-frame : (r : Result (FrameHeader × ℕ) Refusal) (e : Refusal) → r ≡ Err e → refused (number_of e) ≡ read_with true (format_of f) s
        → IntoCore (read_call format s (length d₀)) d₀ d₀ r
    refused-frame r e re er =
        refused-call (read_call format s (length d₀)) d₀ r e re (sym (call_is ∙ ap (λ o. and_then o (λ y. into_buffer y.0 (length d₀))) (sym er)))

    module _ (h : FrameHeader) (n : ℕ) (frame-there : ok (frame_with h (core_in (format_of f) h.frame_type (bits s)), n) ≡ read_with true (format_of f) s) where
      pub known-there : (known h.frame_type ≡ true) × (octets (format_of f) h.frame_type ≤ length s)
      known-there = let k = read_known true (format_of f) s _ n (sym frame-there) in (k.0, k.1)

      pub frame-out : (d : List ℕ) (a : Result (FrameHeader × ℕ) Refusal)
          → IntoCore (into_buffer (frame_with h (core_in (format_of f) h.frame_type (bits s))) (length d₀)) d₀ d a
          → IntoCore (read_call format s (length d₀)) d₀ d a
      frame-out d a p =
          subst (λ o. IntoCore o d₀ d a) (sym (call_is ∙ ap (λ o. and_then o (λ y. into_buffer y.0 (length d₀))) (sym frame-there))) p
