-- `codec_order::judge_row` meets its contract: each test is the definition's, and they are made in its order. Assumes nothing.
use borrow.Author.Rules.{rules}
use mathlib.Core.Path.{◌≡◌, sym, ap, ◌∙◌, subst}
use Prim.Native.Nat.{◌≤◌}
use Rattle.std.specs.Prelude.{Err}
use Rattle.frame.specs.Answers.{built_of}
use Rattle.codec_order.proofs.CallLaws.{bits_found, octets_found, mode_refused, row-length, row_value, row_good, unless_written}
use Rattle.codec_order.proofs.judge_row.Goals as goal

pub returns-in_err-k : goal.returns-in_err-k
returns-in_err-k c =
    let a = c.args in
    let r : c.from_residual.result ≡ Err c.in_err-k.field-0.0 = search rules in
    ap built_of r ∙ mode_refused a.mode a.sheet.now a.row.now a.room _ c.in_err-k.ensures.judged

pub returns-then-row-k : goal.returns-then-row-k
returns-then-row-k c =
    let a = c.args in
    let f = bits_found a.mode a.sheet.now c.in_ok-k.k c.in_ok-k.ensures.judged in
    row-length a.mode a.sheet.now a.row.now a.room _ f (λ l. c.if-row-k.true (l ∙ sym f.size))

pub returns-then-not-zero_or_one : goal.returns-then-not-zero_or_one
returns-then-not-zero_or_one c =
    let a = c.args in
    let f = bits_found a.mode a.sheet.now c.in_ok-k.k c.in_ok-k.ensures.judged in
    row_value a.mode a.sheet.now a.row.now a.room _ f (c.if-row-k.false ∙ f.size) (sym c.zero_or_one.ensures ∙ c.if-not-zero_or_one.true)

pub octets_written-requires : goal.octets_written-requires
octets_written-requires c =
    let a = c.args in
    let f = bits_found a.mode a.sheet.now c.in_ok-k.k c.in_ok-k.ensures.judged in
    (f.sized, subst (λ k. k ≤ 477) f.size c.in_ok-k.ensures.bound)

pub returns : goal.returns
returns c =
    let a = c.args in
    let f = bits_found a.mode a.sheet.now c.in_ok-k.k c.in_ok-k.ensures.judged in
    c.octets_written.ensures ∙ ap (unless_written a.mode a.sheet.now a.room) (octets_found a.mode _ _ f.size c.div_ceil.ensures)
    ∙ row_good a.mode a.sheet.now a.row.now a.room _ f (c.if-row-k.false ∙ f.size) (sym c.zero_or_one.ensures ∙ c.if-not-zero_or_one.false)
