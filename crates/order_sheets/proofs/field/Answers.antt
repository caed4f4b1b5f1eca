-- `order_sheets::field` meets its contract: a number is read behind the word, where that stands. Assumes nothing.
use borrow.Author.Rules.{rules}
use mathlib.Core.Path.{◌≡◌, ap, ◌∙◌}
use Rattle.std.specs.Prelude.{Some, None}
use Rattle.std.proofs.lemmas.Bool.Decides.{Decides-eqb}
use Rattle.std.proofs.lemmas.Slice.Eq.{strip_prefix_is}
use Rattle.order_sheets.specs.Answers.{front}
use Rattle.order_sheets.proofs.FieldLaws.{no-word, word-read}
use Rattle.order_sheets.proofs.field.Goals as goal

pub returns-in_err-strip_prefix : goal.returns-in_err-strip_prefix
returns-in_err-strip_prefix c =
    let a = c.args in
    let r : c.from_residual.result ≡ None = search rules in
    ap front r ∙ no-word a.word.now a.s.now a.end (strip_prefix_is Decides-eqb a.s.now a.word.now None c.in_err-strip_prefix.ensures.cases)

pub returns : goal.returns
returns c =
    let a = c.args in
    let e = strip_prefix_is Decides-eqb a.s.now a.word.now (Some c.in_ok-strip_prefix.field-0) c.in_ok-strip_prefix.ensures.cases in
    c.number.ensures ∙ word-read a.word.now a.s.now a.end _ e
