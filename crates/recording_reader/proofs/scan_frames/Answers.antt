-- `recording_reader::scan_frames` meets its contract: what is counted and what is still to come make the answer. Assumes nothing.
use mathlib.Core.Path.{◌≡◌, sym, ap, ◌∙◌}
use mathlib.Core.Bool.{false}
use Prim.Native.Nat.{ℕ, ◌+◌, ◌≤◌}
use native.Mathlib.Omega.{arith}
use lib.ListN.{drop, length-drop}
use Rattle.std.proofs.Common.{rules, Ok, Err}
use Rattle.bits.specs.Bits.{bits}
use Rattle.definitions.specs.Outcome.{ok}
use Rattle.definitions.specs.Frames.{Frame, octets, core_in}
use Rattle.definitions.specs.Reading.{read_frame}
use Rattle.definitions.proofs.Tables.{known-below}
use Rattle.definitions.proofs.Frames.{read_known}
use Rattle.frame.specs.Answers.{format_of, number_of, frame_with, reading_of}
use Rattle.frame.specs.declared.Refusal.{Refusal}
use Rattle.recording_reader.specs.Answers.{counts_of}
use Rattle.recording_reader.proofs.ScanLaws.{part_read, Counted, counted_start, counted_step, counted_stop, counted-end}
use Rattle.recording_reader.proofs.scan_frames.Goals.{In_ok-h, After-from_residual}
use Rattle.recording_reader.proofs.scan_frames.Goals as goal

-- the frame that was read
abbrev frame_read : In_ok-h → Frame
frame_read c = frame_with c.in_ok-h.h (core_in (format_of c.args.f) c.in_ok-h.h.frame_type (bits (drop c.loop-at.at c.args.s.now)))

read_there : (c : In_ok-h) → read_frame (format_of c.args.f) (drop c.loop-at.at c.args.s.now) ≡ ok (frame_read c, c.in_ok-h.n)
read_there c =
    let a = c.args in
    let is : c.read_front.result ≡ Ok (c.in_ok-h.h, c.in_ok-h.n) = search rules in
    sym (part_read (format_of a.f) a.s.now c.loop-at.at c.read_front.result c.read_front.ensures)
    ∙ ap (reading_of (λ t. core_in (format_of a.f) t (bits (drop c.loop-at.at a.s.now)))) is

-- it is counted
step_there : (c : In_ok-h) (m : ℕ) → m ≡ octets (format_of c.args.g) c.in_ok-h.h.frame_type → m ≤ 477
    → (1 ≤ c.in_ok-h.n) × Counted (format_of c.args.f) (format_of c.args.g) c.args.s.now (c.loop-at.at + c.in_ok-h.n) (c.loop-at.counts.frames + 1) (c.loop-at.counts.octets + m)
step_there c m e small =
    let a = c.args in
    let l = c.loop-at in
    counted_step (format_of a.f) (format_of a.g) a.s.now l.at l.counts.frames l.counts.octets (frame_read c) _ m (λ i. (c.type_inv.s i).fits) (read_there c) e small l.invariant

-- a refusal is handed on with its place
refused_there : (c : After-from_residual) → (e : Refusal) × (c.read_front.result ≡ Err e) × (c.from_residual.result ≡ Err (record { refusal = e; frame = c.loop-at.counts.frames; octet = c.loop-at.at }))
refused_there c = search rules

pub loop-at-init : goal.loop-at-init
loop-at-init c =
    let a = c.args in counted_start (format_of a.f) (format_of a.g) a.s.now _ _ c.header_octets-at.ensures.0 c.header_octets.ensures.0 c.header_octets.ensures.1 c.requires.0

pub returns-in_err-h : goal.returns-in_err-h
returns-in_err-h c =
    λ r.
    let a = c.args in
    let l = c.loop-at in
    let p = refused_there c in
    ap counts_of p.2
    ∙ counted_stop (format_of a.f) (format_of a.g) a.s.now l.at l.counts.frames l.counts.octets (number_of p.0) (omega arith)
    (sym (part_read (format_of a.f) a.s.now l.at c.read_front.result c.read_front.ensures) ∙ ap (reading_of (λ t. core_in (format_of a.f) t (bits (drop l.at a.s.now)))) p.1) l.invariant r

pub octets_of-requires : goal.octets_of-requires
octets_of-requires c =
    rw c.from.ensures (known-below _ (read_known false _ _ _ _ (read_there (goal.at.octets_of-requires c).In_ok-h)).0)

pub overflow_add-at : goal.overflow_add-at
overflow_add-at c =
    let l = c.loop-at in let k = read_known false _ _ _ _ (read_there (goal.at.overflow_add-at c).In_ok-h) in omega (arith, k.1, k.2, l.invariant.within, length-drop l.at c.args.s.now, c.requires.1)

pub loop-at-smaller : goal.loop-at-smaller
loop-at-smaller c =
    let k = step_there (goal.at.loop-at-smaller c).In_ok-h _ (c.octets_of.ensures.0 ∙ ap (octets (format_of c.args.g)) c.from.ensures) c.octets_of.ensures.1 in omega (arith, k.0, k.1.within)

pub loop-at-preserved : goal.loop-at-preserved
loop-at-preserved c =
    (step_there (goal.at.loop-at-preserved c).In_ok-h _ (c.octets_of.ensures.0 ∙ ap (octets (format_of c.args.g)) c.from.ensures) c.octets_of.ensures.1).1

pub returns : goal.returns
returns c =
    λ r. let a = c.args in let l = c.loop-at in counted-end (format_of a.f) (format_of a.g) a.s.now l.at l.counts.frames l.counts.octets (omega arith) l.invariant r
