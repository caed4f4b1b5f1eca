-- `order_sheets::head` meets its contract: a mode from 5 to 8, and then its bits. Assumes nothing.
use borrow.Author.Rules.{rules}
use mathlib.Core.Path.{◌≡◌, sym, ap, ◌∙◌}
use mathlib.Core.Logic.{⊎_elim, inl, inr}
use native.Mathlib.Omega.{arith}
use Rattle.std.specs.Prelude.{None}
use Rattle.definitions.specs.Frames.{core_bits}
use Rattle.order_sheets.specs.Answers.{front}
use Rattle.order_sheets.proofs.HeadLaws.{no-mode, mode-out, no-bits, other-bits, head-read}
use Rattle.order_sheets.proofs.head.Goals as goal

pub returns-in_err-mode-clause-read : goal.returns-in_err-mode-clause-read
returns-in_err-mode-clause-read c =
    let r : c.from_residual.result ≡ None = search rules in
    ap front r ∙ no-mode c.args.s.now c.in_err-mode.ensures

pub returns-then-m-le-HIGHEST_TABLED-clause-read : goal.returns-then-m-le-HIGHEST_TABLED-clause-read
returns-then-m-le-HIGHEST_TABLED-clause-read c =
    mode-out c.args.s.now _ _ c.in_ok-mode.ensures
    (⊎_elim (λ h. inl (omega (arith, h, c.from-m.ensures))) (λ h. inr (omega (arith, h.1, c.from-m.ensures))) c.then-m-le-HIGHEST_TABLED.either)

pub returns-in_err-bits-clause-read : goal.returns-in_err-bits-clause-read
returns-in_err-bits-clause-read c =
    let m = c.in_ok-mode.mode in
    ap front c.from_residual-in_err-bits.ensures
    ∙ no-bits c.args.s.now m _ c.in_ok-mode.ensures (omega (arith, c.if-m-le-HIGHEST_TABLED.false, c.from-m.ensures)) (omega (arith, c.if-m-gt-HIGHEST_MODE.false, c.from-m.ensures)) c.in_err-bits.ensures

pub returns-then-from-core_bits-clause-read : goal.returns-then-from-core_bits-clause-read
returns-then-from-core_bits-clause-read c =
    let m = c.in_ok-mode.mode in
    let k : c.core_bits.result ≡ core_bits m = c.core_bits.ensures.0 ∙ ap core_bits c.from-2.ensures in
    other-bits c.args.s.now m _ c.in_ok-mode.ensures (omega (arith, c.if-m-le-HIGHEST_TABLED.false, c.from-m.ensures)) (omega (arith, c.if-m-gt-HIGHEST_MODE.false, c.from-m.ensures)) _ _ c.in_ok-bits.ensures
    (omega (arith, k, c.core_bits.ensures.1)) (λ e. c.if-from-core_bits.true (c.from.ensures ∙ e ∙ sym k))

pub returns-clause-read : goal.returns-clause-read
returns-clause-read c =
    let m = c.in_ok-mode.mode in
    let k : c.core_bits.result ≡ core_bits m = c.core_bits.ensures.0 ∙ ap core_bits c.from-2.ensures in
    head-read c.args.s.now m _ c.in_ok-mode.ensures (omega (arith, c.if-m-le-HIGHEST_TABLED.false, c.from-m.ensures)) (omega (arith, c.if-m-gt-HIGHEST_MODE.false, c.from-m.ensures)) _ _ c.in_ok-bits.ensures
    (omega (arith, k, c.core_bits.ensures.1)) (sym c.from.ensures ∙ c.if-from-core_bits.false ∙ k)
