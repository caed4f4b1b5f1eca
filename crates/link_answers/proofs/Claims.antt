-- Each field of Down's promise, read off. Assumes nothing.
use mathlib.Core.Path.{ap}
use Rattle.answers.proofs.Claims.{written}
use Rattle.link_answers.specs.declared.DownNumbers.{DownNumbers}
use Rattle.link_answers.specs.Claims.{DownLentOctets}

pub lent_octets : DownLentOctets
lent_octets = record {
  down_refused = λ n l a₀ a b₀ b c₀ c r p.
      (p.buffer1, p.buffer2, p.buffer3, ap (λ (x : DownNumbers). x.refusal) p.answer, ap (λ (x : DownNumbers). x.link) p.answer);
  down_done = λ y l a₀ a b₀ b c₀ c r p. (
    written y.flow1 a₀ a p.buffer1,
    written y.flow2 b₀ b p.buffer2,
    written y.flow3 c₀ c p.buffer3,
    ap (λ (x : DownNumbers). x.refusal) p.answer,
    ap (λ (x : DownNumbers). x.n1) p.answer,
    ap (λ (x : DownNumbers). x.n2) p.answer,
    ap (λ (x : DownNumbers). x.n3) p.answer,
  );
}
