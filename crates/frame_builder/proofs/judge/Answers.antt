-- `frame_builder::judge` meets its contract: each test is the definition's, and they are made in its order. Assumes nothing.
use borrow.Author.Rules.{rules}
use mathlib.Core.Path.{◌≡◌, sym, ap, ◌∙◌}
use Prim.Native.Nat.{ℕ, ◌+◌, ◌-◌, ◌*◌, ◌/◌}
use native.Mathlib.Omega.{arith}
use lib.ListN.{length, drop}
use Rattle.std.specs.Prelude.{Err}
use Rattle.std.specs.Int.{div_ceil}
use Rattle.bits.specs.Bits.{bits, clear, octets_for}
use Rattle.definitions.specs.Outcome.{refused}
use Rattle.definitions.specs.Reading.{buffer_core, core_fill_clear}
use Rattle.frame.specs.Answers.{format_of, reading_of}
use Rattle.frame.proofs.TableLaws.{type_taken, type_refused}
use Rattle.frame_builder.proofs.BuilderLaws.{Measured, type_reserved, core-length_wrong, fill_wrong, fields_wrong, output_short, builds, modes_fit}
use Rattle.frame_builder.proofs.judge.Goals.{Else-core-div_ceil, After-core_fill_clear}
use Rattle.frame_builder.proofs.judge.Goals as goal

-- the octets of K bits
rounded : (k m : ℕ) → m ≡ div_ceil k 8 → m ≡ octets_for k
rounded k m e = let o : m ≡ (k + 7) / 8 = omega (arith, e) in o

measured_there : (c : Else-core-div_ceil) → Measured c.args.t c.args.q c.args.core.now
measured_there c = record {
  type-most = c.if-t-gt15.false;
  quality-most = c.if-q-gt1.false;
  type_known = (type_taken _ _ _ c.in_ok-n.ensures.judged).0;
  core-size = c.if-core-div_ceil.false ∙ rounded _ _ c.div_ceil.ensures ∙ ap octets_for c.core_bits-k.ensures.0;
}

fill_there : (c : After-core_fill_clear) → c.core_fill_clear.result ≡ core_fill_clear c.args.t c.args.core.now
fill_there c =
    let l = c.args.core.now in
    c.core_fill_clear.ensures ∙ ap (λ k. clear (8 * length l - k) (drop k (bits l))) c.core_bits-k.ensures.0

pub returns-in_err-n : goal.returns-in_err-n
returns-in_err-n c =
    let a = c.args in
    let r : c.from_residual.result ≡ Err c.in_err-n.field-0.0 = search rules in
    let p = type_refused _ _ _ c.in_err-n.ensures.judged in
    ap (reading_of (buffer_core a.core.now)) r ∙ ap refused p.1 ∙ type_reserved (format_of a.f) a.t a.q a.i a.r a.core.now a.room c.if-t-gt15.false c.if-q-gt1.false p.0

pub returns-then-core-div_ceil : goal.returns-then-core-div_ceil
returns-then-core-div_ceil c =
    let a = c.args in
    core-length_wrong (format_of a.f) a.t a.q a.i a.r a.core.now a.room (omega arith) (omega arith) (type_taken _ _ _ c.in_ok-n.ensures.judged).0
    (λ l. c.if-core-div_ceil.true (l ∙ ap octets_for (sym c.core_bits-k.ensures.0) ∙ sym (rounded _ _ c.div_ceil.ensures)))

pub returns-then-not-core_fill_clear : goal.returns-then-not-core_fill_clear
returns-then-not-core_fill_clear c =
    let a = c.args in
    let at = goal.at.returns-then-not-core_fill_clear c in
    fill_wrong (format_of a.f) a.t a.q a.i a.r a.core.now a.room (measured_there at.Else-core-div_ceil)
    (sym (fill_there at.After-core_fill_clear) ∙ c.if-not-core_fill_clear.true)

pub returns-then-not-core_fields_good : goal.returns-then-not-core_fields_good
returns-then-not-core_fields_good c =
    let a = c.args in
    let at = goal.at.returns-then-not-core_fields_good c in
    fields_wrong (format_of a.f) a.t a.q a.i a.r a.core.now a.room (measured_there at.Else-core-div_ceil)
    (sym (fill_there at.After-core_fill_clear) ∙ c.if-not-core_fill_clear.false) (sym (c.core_fields_good.ensures a.q) ∙ c.if-not-core_fields_good.true)

pub returns-then-room-n : goal.returns-then-room-n
returns-then-room-n c =
    let a = c.args in
    let at = goal.at.returns-then-room-n c in
    output_short (format_of a.f) a.t a.q a.i a.r a.core.now a.room (measured_there at.Else-core-div_ceil)
    (sym (fill_there at.After-core_fill_clear) ∙ c.if-not-core_fill_clear.false) (sym (c.core_fields_good.ensures a.q) ∙ c.if-not-core_fields_good.false)
    c.in_ok-n.n (type_taken _ _ _ c.in_ok-n.ensures.judged).1 c.if-room-n.true

pub overflow_cast-h-3 : goal.overflow_cast-h-3
overflow_cast-h-3 c = let g = modes_fit _ _ (sym (c.core_fields_good.ensures c.args.q) ∙ c.if-not-core_fields_good.false) in omega arith

pub overflow_cast-h-4 : goal.overflow_cast-h-4
overflow_cast-h-4 c = let g = modes_fit _ _ (sym (c.core_fields_good.ensures c.args.q) ∙ c.if-not-core_fields_good.false) in omega arith

pub returns : goal.returns
returns c =
    let a = c.args in
    let at = goal.at.returns c in
    builds (format_of a.f) a.t a.q a.i a.r a.core.now a.room (measured_there at.Else-core-div_ceil)
    (sym (fill_there at.After-core_fill_clear) ∙ c.if-not-core_fill_clear.false) (sym (c.core_fields_good.ensures a.q) ∙ c.if-not-core_fields_good.false)
    c.in_ok-n.n (type_taken _ _ _ c.in_ok-n.ensures.judged).1 c.if-room-n.false
