-- `joins::read_both` meets its contract: the first is read whole before the second. Assumes nothing.
use mathlib.Core.Path.{◌≡◌, ap, ◌∙◌}
use Rattle.std.proofs.Common.{rules, Ok, Err}
use Rattle.definitions.specs.Outcome.{ok}
use Rattle.definitions.specs.Reading.{format_numbered}
use Rattle.frame.specs.Answers.{number_of, format_of}
use Rattle.recording_reader.specs.declared.RefusedAt.{RefusedAt}
use Rattle.joins.specs.Answers.{refused_of, both_of}
use Rattle.joins.proofs.ReadLaws.{ReadAs, read-done, read-refused, both-first, both-second, both-made}
use Rattle.joins.proofs.read_both.Goals as goal
use Rattle.joins.proofs.read_both.Goals.{In_ok-format, In_ok-x, After-from_residual-in_err-y}

known : (c : In_ok-format) → format_numbered c.args.format ≡ ok (format_of c.in_ok-format.format)
known c = search rules

first_read : (c : In_ok-x) → ReadAs (format_of c.in_ok-format.format) c.args.a.now c.in_ok-x.x.frames
first_read c =
    let e : c.read_all.result ≡ Ok c.in_ok-x.x = search rules in
    read-done _ c.args.a.now c.read_all.result (c.read_all.ensures 0) c.in_ok-x.x e

pub returns-in_err-x : goal.returns-in_err-x
returns-in_err-x c =
    let at = goal.at.returns-in_err-x c in
    let r = c.in_err-x.field-0.0 in
    let e : c.read_all.result ≡ Err c.in_err-x.field-0.0 = search rules in
    let g : c.from_residual-in_err-x.result ≡ Err (refused_of 0 c.in_err-x.field-0.0) = search rules in
    ap both_of g
    ∙ both-first c.args.format c.args.a.now c.args.b.now _ (known at.In_ok-format) (number_of r.refusal) r.frame r.octet
    (read-refused _ c.args.a.now c.read_all.result (c.read_all.ensures 0) r e)

-- the second's refusal is handed on as the second's
second_refused : (c : After-from_residual-in_err-y)
    → (e : RefusedAt) × (c.read_all-2.result ≡ Err e) × (c.from_residual-in_err-y.result ≡ Err (refused_of 1 e))
second_refused c = search rules

pub returns-in_err-y : goal.returns-in_err-y
returns-in_err-y c =
    let at = goal.at.returns-in_err-y c in
    let g = second_refused c in
    let r = g.0 in
    ap both_of g.2
    ∙ both-second c.args.format c.args.a.now c.args.b.now _ (known at.In_ok-format) c.in_ok-x.x.frames (number_of r.refusal) r.frame r.octet (first_read at.In_ok-x)
    (read-refused _ c.args.b.now c.read_all-2.result (c.read_all-2.ensures 0) r g.1)

pub returns : goal.returns
returns c =
    let at = goal.at.returns c in
    let e : c.read_all-2.result ≡ Ok c.in_ok-y.y = search rules in
    both-made c.args.format c.args.a.now c.args.b.now _ (known at.In_ok-format) c.in_ok-x.x.frames c.in_ok-y.y.frames (first_read at.In_ok-x)
    (read-done _ c.args.b.now c.read_all-2.result (c.read_all-2.ensures 0) c.in_ok-y.y e)
