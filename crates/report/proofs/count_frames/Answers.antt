-- `report::count_frames` meets its contract: what is counted and what is still to come make the answer. Assumes nothing.
use mathlib.Core.Path.{◌≡◌, sym, ap, ◌∙◌}
use mathlib.Core.Bool.{false}
use Prim.Native.Nat.{◌+◌, ◌≤◌}
use native.Mathlib.Omega.{arith}
use lib.Dec.{eqb}
use lib.ListN.{drop}
use Rattle.std.proofs.Common.{rules, Ok, Err}
use Rattle.bits.specs.Bits.{bits}
use Rattle.definitions.specs.Outcome.{ok}
use Rattle.definitions.specs.Frames.{storage, Frame, core_in}
use Rattle.definitions.specs.Reading.{read_frame}
use Rattle.definitions.specs.Reception.{class_of}
use Rattle.frame.specs.Answers.{number_of, frame_with, reading_of}
use Rattle.frame.specs.declared.Refusal.{Refusal}
use Rattle.recording_reader.proofs.ScanLaws.{part_read}
use Rattle.report.specs.Answers.{report_counts, reported_of}
use Rattle.report.specs.Counting.{one_more}
use Rattle.report.proofs.CountingLaws.{Counted, counted_step, counted_stop}
use Rattle.report.proofs.count_frames.Goals.{In_ok-h, After-count, After-from_residual}
use Rattle.report.proofs.count_frames.Goals as goal

-- the frame that was read
abbrev frame_read : In_ok-h → Frame
frame_read c = frame_with c.in_ok-h.h (core_in storage c.in_ok-h.h.frame_type (bits (drop c.loop-at.at c.args.s.now)))

read_there : (c : In_ok-h) → read_frame storage (drop c.loop-at.at c.args.s.now) ≡ ok (frame_read c, c.in_ok-h.n)
read_there c =
    let s = c.args.s.now in
    let at = c.loop-at.at in
    let is : c.read_next.result ≡ Ok (c.in_ok-h.h, c.in_ok-h.n) = search rules in
    sym (part_read storage s at c.read_next.result c.read_next.ensures) ∙ ap (reading_of (λ t. core_in storage t (bits (drop at s)))) is

-- it is counted
step_there : (c : After-count) → (1 ≤ c.in_ok-h.n) × Counted c.args.s.now (c.loop-at.at + c.in_ok-h.n) (report_counts c.count.new.self)
step_there c =
    let l = c.loop-at in
    let h = c.in_ok-h.h in
    let t : c.from.result ≡ h.frame_type = search rules in
    counted_step c.args.s.now l.at (report_counts l.report) (frame_read (goal.at.loop-at-preserved c).In_ok-h) _ false (report_counts c.count.new.self) (λ i. (c.type_inv.s i).fits)
    (read_there (goal.at.loop-at-preserved c).In_ok-h)
    (c.count.ensures ∙ ap (one_more (report_counts l.report)) (c.class_of.ensures ∙ ap (λ t. class_of t (eqb h.quality 1) false) t)) l.invariant

-- a refusal is handed on with its place
refused_there : (c : After-from_residual) → (e : Refusal) × (c.read_next.result ≡ Err e) × (c.from_residual.result ≡ Err (record { refusal = e; frame = c.loop-at.report.frames; octet = c.loop-at.at }))
refused_there c = search rules

pub returns-in_err-h : goal.returns-in_err-h
returns-in_err-h c =
    let s = c.args.s.now in
    let l = c.loop-at in
    let p = refused_there c in
    ap reported_of p.2
    ∙ counted_stop s l.at (report_counts l.report) (number_of p.0) (omega arith)
    (sym (part_read storage s l.at c.read_next.result c.read_next.ensures) ∙ ap (reading_of (λ t. core_in storage t (bits (drop l.at s)))) p.1) l.invariant

pub overflow_add-at : goal.overflow_add-at
overflow_add-at c = omega (arith, (step_there (goal.at.overflow_add-at c).After-count).1.within, c.requires.1)

pub loop-at-smaller : goal.loop-at-smaller
loop-at-smaller c =
    let k = step_there (goal.at.loop-at-smaller c).After-count in omega (arith, k.0, k.1.within)

pub loop-at-preserved : goal.loop-at-preserved
loop-at-preserved c = (step_there (goal.at.loop-at-preserved c).After-count).1
