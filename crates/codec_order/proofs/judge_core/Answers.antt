-- `codec_order::judge_core` meets its contract: each test is the definition's, and they are made in its order. Assumes nothing.
use borrow.Author.Rules.{rules}
use mathlib.Core.Path.{◌≡◌, sym, ap, ◌∙◌, subst}
use Prim.Native.Nat.{◌≤◌}
use Rattle.std.specs.Prelude.{Err}
use Rattle.frame.specs.Answers.{built_of}
use Rattle.codec_order.proofs.CallLaws.{bits_found, octets_found, core-mode_refused, core_length, core_filling, core_good, unless_written, filling_there}
use Rattle.codec_order.proofs.judge_core.Goals as goal

pub returns-in_err-k : goal.returns-in_err-k
returns-in_err-k c =
    let a = c.args in
    let r : c.from_residual.result ≡ Err c.in_err-k.field-0.0 = search rules in
    ap built_of r ∙ core-mode_refused a.mode a.sheet.now a.core.now a.room _ c.in_err-k.ensures.judged

pub returns-then-core-div_ceil : goal.returns-then-core-div_ceil
returns-then-core-div_ceil c =
    let a = c.args in
    let f = bits_found a.mode a.sheet.now c.in_ok-k.k c.in_ok-k.ensures.judged in
    core_length a.mode a.sheet.now a.core.now a.room _ f (λ l. c.if-core-div_ceil.true (l ∙ sym (octets_found a.mode _ _ f.size c.div_ceil.ensures)))

pub returns-then-not-core_fill_clear : goal.returns-then-not-core_fill_clear
returns-then-not-core_fill_clear c =
    let a = c.args in
    let f = bits_found a.mode a.sheet.now c.in_ok-k.k c.in_ok-k.ensures.judged in
    core_filling a.mode a.sheet.now a.core.now a.room _ f (c.if-core-div_ceil.false ∙ octets_found a.mode _ _ f.size c.div_ceil.ensures)
    (sym (filling_there _ _ a.core.now f.size) ∙ sym c.core_fill_clear.ensures ∙ c.if-not-core_fill_clear.true)

pub octets_written-requires : goal.octets_written-requires
octets_written-requires c =
    let a = c.args in
    let f = bits_found a.mode a.sheet.now c.in_ok-k.k c.in_ok-k.ensures.judged in
    (f.sized, subst (λ k. k ≤ 477) f.size c.in_ok-k.ensures.bound)

pub returns : goal.returns
returns c =
    let a = c.args in
    let f = bits_found a.mode a.sheet.now c.in_ok-k.k c.in_ok-k.ensures.judged in
    c.octets_written.ensures ∙ ap (unless_written a.mode a.sheet.now a.room) f.size
    ∙ core_good a.mode a.sheet.now a.core.now a.room _ f (c.if-core-div_ceil.false ∙ octets_found a.mode _ _ f.size c.div_ceil.ensures)
    (sym (filling_there _ _ a.core.now f.size) ∙ sym c.core_fill_clear.ensures ∙ c.if-not-core_fill_clear.false)
