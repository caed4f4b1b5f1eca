-- `table::octets_known` meets its contract: a type without octets is reserved, and no other. Assumes nothing.
use mathlib.Core.Path.{sym, ◌∙◌}
use Rattle.frame.specs.Answers.{format_of}
use Rattle.frame.proofs.TableLaws.{no_octets_reserved, octets_not_reserved}
use Rattle.frame.proofs.table.octets_known.Goals as goal

pub returns-then-n-eq0-clause-judged : goal.returns-then-n-eq0-clause-judged
returns-then-n-eq0-clause-judged c =
    rw (no_octets_reserved (format_of c.args.f) c.args.t c.requires (sym c.octets_of-n.ensures.0 ∙ c.if-n-eq0.true))

pub returns-clause-judged : goal.returns-clause-judged
returns-clause-judged c =
    let e = c.octets_of-n.ensures.0 in
    rw (octets_not_reserved (format_of c.args.f) c.args.t c.requires (λ z. c.if-n-eq0.false (e ∙ z)), e)
