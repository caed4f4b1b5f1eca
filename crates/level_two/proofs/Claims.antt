-- Each field of the promises, read off. Assumes nothing.
use mathlib.Core.Path.{◌≡◌, ap}
use Rattle.answers.proofs.Claims.{written}
use Rattle.order_sheets.specs.declared.SheetAnswer.{SheetAnswer}
use Rattle.level_two.specs.declared.ViewAnswer.{ViewAnswer}
use Rattle.level_two.specs.Claims.{ViewerLentOctets, SheetLentNumbers}

-- a field of an answer
module _ {a b : ViewAnswer} (e : a ≡ b) where
  refusal : a.refusal ≡ b.refusal
  refusal = ap (λ (v : ViewAnswer). v.refusal) e

  last : a.end ≡ b.end
  last = ap (λ (v : ViewAnswer). v.end) e

  number : a.number ≡ b.number
  number = ap (λ (v : ViewAnswer). v.number) e

  offset : a.offset ≡ b.offset
  offset = ap (λ (v : ViewAnswer). v.offset) e

  class : a.class ≡ b.class
  class = ap (λ (v : ViewAnswer). v.class) e

pub lent_octets : ViewerLentOctets
lent_octets = record {
  view_refused = λ n k at place d₀ d r p. (
    p.buffer,
    refusal p.answer,
    ap (λ (v : ViewAnswer). v.frame) p.answer,
    ap (λ (v : ViewAnswer). v.octet) p.answer,
    number p.answer,
    offset p.answer,
    class p.answer,
  );
  view_ended = λ place d₀ d r p. (p.buffer, refusal p.answer, last p.answer, number p.answer, offset p.answer, class p.answer);
  view_shown = λ x m at place d₀ d r p.
      (written _ d₀ d p.buffer, refusal p.answer, last p.answer, number p.answer, offset p.answer, class p.answer);
}

-- and of a sheet's
module _ {a b : SheetAnswer} (e : a ≡ b) where
  sheet-refusal : a.refusal ≡ b.refusal
  sheet-refusal = ap (λ (a : SheetAnswer). a.refusal) e

  mode : a.mode ≡ b.mode
  mode = ap (λ (a : SheetAnswer). a.mode) e

  numbers : a.numbers ≡ b.numbers
  numbers = ap (λ (a : SheetAnswer). a.numbers) e

pub lent_numbers : SheetLentNumbers
lent_numbers = record {
  sheet_refused = λ n d₀ d r p. (p.buffer, sheet-refusal p.answer, mode p.answer, numbers p.answer);
  sheet_read = λ m table d₀ d r p. (written table d₀ d p.buffer, sheet-refusal p.answer, mode p.answer, numbers p.answer);
}
