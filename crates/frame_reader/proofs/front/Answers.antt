-- `frame_reader::front` meets its contract: each test is the definition's, and what they leave is what the struct asks. Assumes nothing.
use borrow.Author.Rules.{rules}
use native.Mathlib.Omega.{arith}
use mathlib.Core.Path.{◌≡◌, sym, ap, ◌∙◌}
use Rattle.std.specs.Prelude.{Err}
use Rattle.bits.specs.Bits.{bits}
use Rattle.definitions.specs.Outcome.{refused}
use Rattle.definitions.specs.Frames.{known, octets}
use Rattle.frame.specs.Answers.{format_of}
use Rattle.frame.proofs.TableLaws.{type-below, type_taken, type_refused}
use Rattle.frame_reader.proofs.ReaderLaws.{refuses_1, refuses_2, refuses_3}
use Rattle.frame_reader.proofs.front.Goals as goal

pub returns-then-s-eq0 : goal.returns-then-s-eq0
returns-then-s-eq0 c =
    λ single. refuses_1 single (format_of c.args.f) c.args.s.now c.if-s-eq0.true

pub octets_known-requires : goal.octets_known-requires
octets_known-requires c = omega (arith, c.type_in-frame_type.ensures, type-below (format_of c.args.f) (bits c.args.s.now))

pub returns-in_err-size : goal.returns-in_err-size
returns-in_err-size c =
    let r : c.from_residual.result ≡ Err c.in_err-size.field-0.0 = search rules in
    let p = type_refused _ _ _ c.in_err-size.ensures.judged in
    rw r (λ single. ap refused p.1 ∙ refuses_2 single (format_of c.args.f) c.args.s.now _ (omega arith) (c.from.ensures ∙ c.type_in-frame_type.ensures) p.0)

pub returns-then-s-size : goal.returns-then-s-size
returns-then-s-size c =
    λ single.
    let p = type_taken _ _ _ c.in_ok-size.ensures.judged in
    refuses_3 single (format_of c.args.f) c.args.s.now _ c.in_ok-size.size (omega arith) (c.from.ensures ∙ c.type_in-frame_type.ensures) p.0 p.1 c.if-s-size.true

pub invariant_of-result : goal.invariant_of-result
invariant_of-result c =
    let p = type_taken _ _ _ c.in_ok-size.ensures.judged in
    record {
      type_is = c.type_in-frame_type.ensures;
      type_known = ap known (sym c.from.ensures) ∙ p.0;
      size_is = p.1 ∙ ap (octets (format_of c.args.f)) c.from.ensures;
      enough = c.if-s-size.false;
    }
