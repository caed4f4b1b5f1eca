-- `converter::measure` meets its contract: the reading's refusal, or 9 for what would be written. Assumes nothing.
use borrow.Author.Rules.{rules}
use mathlib.Core.Path.{◌≡◌, ap, ◌∙◌}
use Rattle.std.specs.Prelude.{Err}
use Rattle.recordings.specs.Placed.{refused_at}
use Rattle.frame.specs.Answers.{number_of, format_of}
use Rattle.recording_reader.specs.Answers.{counts_of}
use Rattle.converter.proofs.CallLaws.{measured_refused, measured_long, measured}
use Rattle.converter.proofs.measure.Goals as goal

pub returns-in_err-counts : goal.returns-in_err-counts
returns-in_err-counts c =
    λ r.
    let a = c.args in
    let e : c.from_residual.result ≡ Err c.in_err-counts.field-0.0 = search rules in
    ap counts_of e ∙ measured_refused (format_of a.c.from) (format_of a.c.to) r a.s.now _ _ _ (c.in_err-counts.ensures r)

pub returns-then-counts-gt-LIMIT : goal.returns-then-counts-gt-LIMIT
returns-then-counts-gt-LIMIT c =
    λ r.
    let a = c.args in
    ap (λ e. refused_at (number_of e.refusal) e.frame e.octet) c.into.ensures
    ∙ measured_long (format_of a.c.from) (format_of a.c.to) r a.s.now _ _ (c.in_ok-counts.ensures r) c.if-counts-gt-LIMIT.true

pub returns : goal.returns
returns c =
    λ r. let a = c.args in measured (format_of a.c.from) (format_of a.c.to) r a.s.now _ _ (c.in_ok-counts.ensures r) c.if-counts-gt-LIMIT.false
