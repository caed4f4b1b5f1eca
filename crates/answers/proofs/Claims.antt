-- What a call writes is in front of the buffer and the rest is as it was, by what `overwritten` is; a refused call leaves the buffer. Assumes
-- nothing.
use mathlib.Core.Path.{◌≡◌, refl, ap, ◌∙◌}
use mathlib.Core.List.{List}
use Prim.Native.Nat.{ℕ}
use lib.ListN.{length, take, drop}
use lib.Seq.{take_at, drop_at}
use Rattle.definitions.specs.Reading.{overwritten}
use Rattle.answers.specs.declared.Answer.{Answer}
use Rattle.answers.specs.declared.FrameAnswer.{FrameAnswer}
use Rattle.answers.specs.Claims.{Written, LentOctets}

pub written : (w d₀ d : List ℕ) → d ≡ overwritten w d₀ → Written w d₀ d
written w d₀ d e = record {
  front = ap (take (length w)) e ∙ take_at w (drop (length w) d₀) _ refl;
  beyond = ap (drop (length w)) e ∙ drop_at w (drop (length w) d₀) _ refl;
}

pub lent_octets : LentOctets
lent_octets = record {
  conversion_refused = λ n k at d₀ d r p.
      (p.buffer, ap (λ (a : Answer). a.refusal) p.answer, ap (λ (a : Answer). a.frame) p.answer, ap (λ (a : Answer). a.octet) p.answer);
  conversion_done = λ m w d₀ d r p.
      (written w d₀ d p.buffer, ap (λ (a : Answer). a.refusal) p.answer, ap (λ (a : Answer). a.frames) p.answer, ap (λ (a : Answer). a.octets) p.answer);
  output_refused = λ n d₀ d r p. (p.buffer, ap (λ (a : Answer). a.refusal) p.answer);
  output_done = λ w d₀ d r p. (written w d₀ d p.buffer, ap (λ (a : Answer). a.refusal) p.answer, ap (λ (a : Answer). a.octets) p.answer);
  frame_refused = λ n d₀ d r p. (p.buffer, ap (λ (a : FrameAnswer). a.refusal) p.answer);
  frame_done = λ x n d₀ d r p.
      (written _ d₀ d p.buffer, ap (λ (a : FrameAnswer). a.refusal) p.answer, ap (λ (a : FrameAnswer). a.frame_type) p.answer, ap (λ (a : FrameAnswer). a.core_octets) p.answer);
}
