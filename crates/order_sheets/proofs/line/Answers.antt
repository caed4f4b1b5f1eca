-- `order_sheets::line` meets its contract: the line names d(j), and its number ends with it. Assumes nothing.
use borrow.Author.Rules.{rules}
use mathlib.Core.Path.{◌≡◌, sym, ap, ◌∙◌}
use Rattle.std.specs.Prelude.{None}
use Rattle.order_sheets.specs.Answers.{front}
use Rattle.order_sheets.proofs.FieldLaws.{no-name, other-name, right-name}
use Rattle.order_sheets.proofs.line.Goals as goal

pub returns-in_err-i : goal.returns-in_err-i
returns-in_err-i c =
    let r : c.from_residual.result ≡ None = search rules in
    ap front r ∙ no-name c.args.s.now c.args.j c.in_err-i.ensures

pub returns-then-from-j : goal.returns-then-from-j
returns-then-from-j c = other-name c.args.s.now c.args.j _ _ c.in_ok-i.ensures c.requires (λ e. c.if-from-j.true (c.from.ensures ∙ e))

pub returns : goal.returns
returns c = c.number.ensures ∙ right-name c.args.s.now c.args.j _ _ c.in_ok-i.ensures c.requires (sym c.from.ensures ∙ c.if-from-j.false)
