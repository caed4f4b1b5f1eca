-- `converter::convert` meets its contract: each refusal in document 01's order, and then what `write_recording` wrote. Assumes nothing.
use borrow.Author.Rules.{rules}
use mathlib.Core.Path.{◌≡◌, refl, ap}
use native.Mathlib.Omega.{arith}
use Rattle.std.specs.Prelude.{Err}
use Rattle.recordings.specs.Placed.{refused_at}
use Rattle.frame.specs.Answers.{number_of, format_of}
use Rattle.recording_reader.specs.Answers.{outside, counts_of}
use Rattle.converter.proofs.CallLaws.{planned_is, into_unasked, into_refused_reading, into_short, into_done}
use Rattle.converter.proofs.convert.Goals as goal

pub returns-in_err-c : goal.returns-in_err-c
returns-in_err-c c =
    let a = c.args in
    let e : c.from_residual.result ≡ Err (outside c.in_err-c.field-0.0) = search rules in
    into_unasked a.from a.to a.request a.s.now a.out.now _ _ c.in_err-c.ensures (ap counts_of e)

pub returns-in_err-counts : goal.returns-in_err-counts
returns-in_err-counts c =
    let a = c.args in
    let k = c.in_ok-c.c in
    let e : c.from_residual-in_err-counts.result ≡ Err c.in_err-counts.field-0.0 = search rules in
    into_refused_reading a.from a.to a.request a.s.now a.out.now (format_of k.from) (format_of k.to) k.request c.in_ok-c.ensures _ _ _ _ (ap counts_of e)
    (c.in_err-counts.ensures k.request)

pub returns-then-out-counts : goal.returns-then-out-counts
returns-then-out-counts c =
    let a = c.args in
    let k = c.in_ok-c.c in
    into_short a.from a.to a.request a.s.now a.out.now (format_of k.from) (format_of k.to) k.request c.in_ok-c.ensures _ _
    (planned_is (format_of k.from) (format_of k.to) k.request a.s.now _ _ (c.in_ok-counts.ensures k.request)) _ c.if-out-counts.true
    (ap (λ e. refused_at (number_of e.refusal) e.frame e.octet) c.into.ensures)

pub write_recording-requires : goal.write_recording-requires
write_recording-requires c =
    let k = c.in_ok-c.c in
    let p = planned_is (format_of k.from) (format_of k.to) k.request c.args.s.now _ _ (c.in_ok-counts.ensures k.request) in
    (p.xs, record { read = p.read; within = p.within; room = omega (arith, p.size) })

pub returns : goal.returns
returns c =
    let a = c.args in
    let k = c.in_ok-c.c in
    let p = planned_is (format_of k.from) (format_of k.to) k.request a.s.now _ _ (c.in_ok-counts.ensures k.request) in
    into_done a.from a.to a.request a.s.now a.out.now (format_of k.from) (format_of k.to) k.request c.in_ok-c.ensures _ _ p _ _ c.if-out-counts.false refl
    (c.write_recording.ensures p.xs (record { read = p.read; within = p.within; room = omega (arith, p.size) }))
