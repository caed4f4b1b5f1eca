-- `order_sheets::read_sheet` meets its contract: what its parts find decides the call, and the table is written where nothing is refused. Assumes
-- nothing.
use borrow.Author.Rules.{rules}
use mathlib.Core.Path.{◌≡◌, sym, ap, ◌∙◌, subst}
use native.Mathlib.Omega.{arith}
use lib.ListN.{length}
use Rattle.std.specs.Prelude.{Some, None, Err}
use Rattle.definitions.specs.Frames.{core_bits}
use Rattle.frame.specs.declared.Refusal.TheVariants.{SheetForm, OutputShort}
use Rattle.order_sheets_spec.specs.Sheets.{sheet_call}
use Rattle.order_sheets.specs.Answers.{front, IntoNumbers}
use Rattle.order_sheets.proofs.TestLaws.{tests_of}
use Rattle.order_sheets.proofs.CallLaws.{head-found, no-head, table-refused, row-short, leaves, writes}
use Rattle.order_sheets.proofs.read_sheet.Goals as goal

pub returns-in_err-mode : goal.returns-in_err-mode
returns-in_err-mode c =
    let a = c.args in
    let n : c.head.result ≡ None = search rules in
    let r : c.from_residual.result ≡ Err SheetForm = search rules in
    let o = sheet_call a.text.now (length a.numbers.now) in
    subst (IntoNumbers o a.numbers.now a.numbers.now) (sym r) (leaves o a.numbers.now SheetForm (no-head a.text.now _ (sym (ap front n) ∙ c.head.ensures.read)))

pub returns-in_err-judge_lines : goal.returns-in_err-judge_lines
returns-in_err-judge_lines c =
    let a = c.args in
    let e = c.in_err-judge_lines.field-0.0 in
    let r : c.from_residual-in_err-judge_lines.result ≡ Err e = search rules in
    let is : c.head.result ≡ Some (c.in_ok-mode.mode, c.in_ok-mode.lines) = search rules in
    let h = head-found a.text.now _ _ _ is c.head.ensures.read c.head.ensures.range in
    let k = c.core_bits-k.ensures.0 ∙ ap core_bits c.from.ensures in
    let o = sheet_call a.text.now (length a.numbers.now) in
    subst (IntoNumbers o a.numbers.now a.numbers.now) (sym r)
    (leaves o a.numbers.now e
    (table-refused a.text.now _ c.in_ok-mode.mode _ h.0 h.1 _ (c.in_err-judge_lines.ensures ∙ ap (λ k. tests_of k c.in_ok-mode.lines.now) k)))

pub returns-then-numbers-k : goal.returns-then-numbers-k
returns-then-numbers-k c =
    let a = c.args in
    let is : c.head.result ≡ Some (c.in_ok-mode.mode, c.in_ok-mode.lines) = search rules in
    let h = head-found a.text.now _ _ _ is c.head.ensures.read c.head.ensures.range in
    let k = c.core_bits-k.ensures.0 ∙ ap core_bits c.from.ensures in
    leaves (sheet_call a.text.now (length a.numbers.now)) a.numbers.now OutputShort
    (row-short a.text.now _ c.in_ok-mode.mode _ h.0 h.1 (omega (arith, c.if-numbers-k.true, k))
    (c.in_ok-judge_lines.ensures ∙ ap (λ k. tests_of k c.in_ok-mode.lines.now) k))

pub returns : goal.returns
returns c =
    let a = c.args in
    let is : c.head.result ≡ Some (c.in_ok-mode.mode, c.in_ok-mode.lines) = search rules in
    let h = head-found a.text.now _ _ _ is c.head.ensures.read c.head.ensures.range in
    let k = c.core_bits-k.ensures.0 ∙ ap core_bits c.from.ensures in
    writes a.text.now a.numbers.now _ c.in_ok-mode.mode _ c.in_ok-mode.lines.now h.0 h.1 k c.if-numbers-k.false
    (c.in_ok-judge_lines.ensures ∙ ap (λ k. tests_of k c.in_ok-mode.lines.now) k) c.write_lines.ensures
