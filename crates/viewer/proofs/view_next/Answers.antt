-- `viewer::view_next` meets its contract: the frame is shown, then its core is put into the buffer. Assumes nothing.
use mathlib.Core.Path.{◌≡◌}
use native.Mathlib.Omega.{arith}
use Rattle.std.proofs.Common.{rules, Ok, Err, Some, None}
use Rattle.definitions.specs.Outcome.{refused, ok}
use Rattle.definitions.specs.Reading.{format_numbered}
use Rattle.frame.specs.Answers.{format_of, number_of}
use Rattle.recording_reader.specs.Answers.{outside}
use Rattle.viewer.specs.Answers.{Nexts}
use Rattle.viewer.proofs.NextLaws.{unknown_next, ended, refused_view, offset_within, frame-known, no_room, core_there}
use Rattle.viewer.proofs.view_next.Goals.{In_ok-f, In-Some}
use Rattle.viewer.proofs.view_next.Goals as goal

format_there : (c : In_ok-f) → format_numbered c.args.format ≡ ok (format_of c.in_ok-f.f)
format_there c = search rules

shown_there : (c : In-Some) → let p = c.args.place in Nexts c.args.format p.offset p.number c.args.rec.now (Ok (Some (c.in-Some.h, c.in-Some.behind)))
shown_there c = search rules

pub returns-in_err-f : goal.returns-in_err-f
returns-in_err-f c =
    let a = c.args in
    let p = a.place in
    let e = c.in_err-f.field-0.0 in
    let none : format_numbered a.format ≡ refused (number_of e) = search rules in
    let is : c.from_residual.result ≡ Err (outside e) = search rules in
    rw is (refused_view a.format p.offset p.number a.rec.now a.core.now _ (unknown_next a.format p.offset p.number a.rec.now e none))

pub returns-in_err-h : goal.returns-in_err-h
returns-in_err-h c =
    let a = c.args in
    let p = a.place in
    let e = c.in_err-h.field-0.0 in
    let v : Nexts a.format p.offset p.number a.rec.now (Err e) = search rules in
    let is : c.from_residual-in_err-h.result ≡ Err e = search rules in
    rw is (refused_view a.format p.offset p.number a.rec.now a.core.now e v)

pub returns-in_default : goal.returns-in_default
returns-in_default c =
    let a = c.args in
    let p = a.place in
    let v : Nexts a.format p.offset p.number a.rec.now (Ok None) = search rules in
    ended a.format p.offset p.number a.rec.now a.core.now v

pub slice_bounds-core_out-count : goal.slice_bounds-core_out-count
slice_bounds-core_out-count c =
    let a = c.args in
    let at = goal.at.slice_bounds-core_out-count c in
    offset_within a.format a.place.offset a.place.number a.rec.now c.in-Some.h c.in-Some.behind (shown_there at.In-Some) (format_of c.in_ok-f.f) (format_there at.In_ok-f)

pub slice_bounds-core_out-start : goal.slice_bounds-core_out-start
slice_bounds-core_out-start c =
    let a = c.args in
    let at = goal.at.slice_bounds-core_out-start c in
    omega (arith, offset_within a.format a.place.offset a.place.number a.rec.now c.in-Some.h c.in-Some.behind (shown_there at.In-Some) (format_of c.in_ok-f.f) (format_there at.In_ok-f))

pub core_out-requires : goal.core_out-requires
core_out-requires c =
    let a = c.args in
    let at = goal.at.core_out-requires c in
    frame-known a.format a.place.offset a.place.number a.rec.now c.in-Some.h c.in-Some.behind (shown_there at.In-Some) (format_of c.in_ok-f.f) (format_there at.In_ok-f)

pub returns-in_err-core_out : goal.returns-in_err-core_out
returns-in_err-core_out c =
    let a = c.args in
    let at = goal.at.returns-in_err-core_out c in
    let o = c.core_out in
    let e = c.in_err-core_out.field-0.0 in
    let is : c.from_residual-in_err-core_out.result ≡ Err (outside e) = search rules in
    let was : o.result ≡ Err e = search rules in
    rw is (no_room a.format a.place.offset a.place.number a.rec.now c.in-Some.h c.in-Some.behind (shown_there at.In-Some) (format_of c.in_ok-f.f) (format_there at.In_ok-f) a.core.now o.new.core o.result o.ensures e was)

pub returns : goal.returns
returns c =
    let a = c.args in
    let at = goal.at.returns c in
    let o = c.core_out in
    let y = c.in_ok-core_out.field-0 in
    let was : o.result ≡ Ok (y.0, y.1) = search rules in
    core_there a.format a.place.offset a.place.number a.rec.now c.in-Some.h c.in-Some.behind (shown_there at.In-Some) (format_of c.in_ok-f.f) (format_there at.In_ok-f) a.core.now o.new.core o.result o.ensures y.0 y.1 was
