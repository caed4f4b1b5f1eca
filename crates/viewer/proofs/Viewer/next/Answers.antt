-- `viewer::Viewer::next` meets its contract: the format, the place, the end and the frame are judged one after the other. Assumes nothing.
use mathlib.Core.Path.{◌≡◌, sym, ap, ◌∙◌}
use native.Mathlib.Omega.{arith}
use lib.ListN.{drop}
use Rattle.std.proofs.Common.{rules, Ok, Err}
use Rattle.bits.specs.Bits.{bits}
use Rattle.definitions.specs.Outcome.{refused, ok}
use Rattle.definitions.specs.Frames.{core_in}
use Rattle.definitions.specs.Reading.{read_frame, format_numbered}
use Rattle.recordings.proofs.ViewCalls.{next_frame}
use Rattle.frame.specs.Answers.{format_of, number_of, frame_with, reading_of}
use Rattle.frame.specs.declared.Refusal.{Refusal}
use Rattle.recording_reader.proofs.ScanLaws.{part_read}
use Rattle.viewer.specs.Answers.{view_of, core_in_recording}
use Rattle.viewer.proofs.NextLaws.{viewed, next_within, frame_next}
use Rattle.viewer.proofs.Viewer.next.Goals.{In_ok-f, In_ok-h, After-from_residual-in_err-h}
use Rattle.viewer.proofs.Viewer.next.Goals as goal

format_there : (c : In_ok-f) → format_numbered c.args.self.now.format ≡ ok (format_of c.in_ok-f.f)
format_there c = search rules

read_there : (c : In_ok-h) → let v = c.args.self.now in let f = format_of c.in_ok-f.f in let d = drop v.place.offset v.rec.now in
    read_frame f d ≡ ok (frame_with c.in_ok-h.h (core_in f c.in_ok-h.h.frame_type (bits d)), c.in_ok-h.n)
read_there c =
    let v = c.args.self.now in
    let f = format_of c.in_ok-f.f in
    let is : c.read_next.result ≡ Ok (c.in_ok-h.h, c.in_ok-h.n) = search rules in
    sym (part_read f v.rec.now v.place.offset c.read_next.result c.read_next.ensures)
    ∙ ap (reading_of (λ t. core_in f t (bits (drop v.place.offset v.rec.now)))) is

-- a refusal is handed on with its place
refused_there : (c : After-from_residual-in_err-h) → let p = c.args.self.now.place in
    (e : Refusal) × (c.read_next.result ≡ Err e) × (c.from_residual-in_err-h.result ≡ Err (record { refusal = e; frame = p.number; octet = p.offset }))
refused_there c = search rules

pub returns-in_err-h : goal.returns-in_err-h
returns-in_err-h c =
    let v = c.args.self.now in
    let f = format_of c.in_ok-f.f in
    let s = v.rec.now in
    let p = refused_there c in
    viewed _ _ _ _
    (ap (view_of (core_in_recording v.format v.place.offset s)) p.2
    ∙ sym (next_frame v.format s f (format_there (goal.at.returns-in_err-h c).In_ok-f) v.place.number v.place.offset (refused (number_of p.0)) (omega arith) (omega arith)
    (sym (part_read f s v.place.offset c.read_next.result c.read_next.ensures) ∙ ap (reading_of (λ t. core_in f t (bits (drop v.place.offset s)))) p.1)))

pub overflow_add-behind-2 : goal.overflow_add-behind-2
overflow_add-behind-2 c =
    let v = c.args.self.now in
    omega (arith, next_within v.rec.now v.place.offset (format_of c.in_ok-f.f) c.in_ok-h.h c.in_ok-h.n (read_there (goal.at.overflow_add-behind-2 c).In_ok-h) (omega arith))

pub returns : goal.returns
returns c =
    let v = c.args.self.now in
    let at = goal.at.returns c in
    frame_next v.rec.now v.place.offset (format_of c.in_ok-f.f) c.in_ok-h.h c.in_ok-h.n (read_there at.In_ok-h) v.format v.place.number (format_there at.In_ok-f) (omega arith) (omega arith)
