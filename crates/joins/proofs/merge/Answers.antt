-- `joins::merge` meets its contract: each refusal in its order, and then what `write_merged` wrote behind the file header. Assumes nothing.
use mathlib.Core.Path.{◌≡◌, refl, sym, ap, ap₂, ◌∙◌}
use Prim.Native.Nat.{◌+◌, ◌-◌, max}
use native.Mathlib.Omega.{arith}
use lib.ListN.{length, drop, length-take, length-drop}
use Rattle.std.proofs.Common.{rules, Err}
use Rattle.frame.specs.Answers.{format_of}
use Rattle.recordings.specs.Recordings.{layouts, write_recording}
use Rattle.joins_spec.specs.Joining.{merged}
use Rattle.joins_spec.proofs.Slots.{length-merged}
use Rattle.joins.specs.Answers.{joined_counts, Body}
use Rattle.joins.proofs.CallLaws.{BothRead, both_is, Parts, parts, recording_size, recording-written, call_refused, call_long, call_short, call_made}
use Rattle.joins.proofs.merge.Goals as goal
use Rattle.joins.proofs.merge.Goals.{In_ok-both, After-header_octets-h, After-merged_octets}

-- ---- what is known behind the two readings

both_there : (c : In_ok-both) → BothRead c.args.format c.args.a.now c.args.b.now (format_of c.in_ok-both.both.format) c.in_ok-both.both.first_frames c.in_ok-both.both.second_frames
both_there c = both_is c.args.format c.args.a.now c.args.b.now _ _ _ c.in_ok-both.ensures

module _ (c : After-header_octets-h)
    (p : BothRead c.args.format c.args.a.now c.args.b.now (format_of c.in_ok-both.both.format) c.in_ok-both.both.first_frames c.in_ok-both.both.second_frames) where
  first_parts : Parts (format_of c.in_ok-both.both.format) c.args.a.now p.first.xs c.header_octets-h.result
  first_parts = parts _ c.args.a.now p.first.xs c.header_octets-h.result (λ i. (c.type_inv.a i).fits) p.first.read c.header_octets-h.ensures.0

  second_parts : Parts (format_of c.in_ok-both.both.format) c.args.b.now p.second.xs c.header_octets-h.result
  second_parts = parts _ c.args.b.now p.second.xs c.header_octets-h.result (λ i. (c.type_inv.b i).fits) p.second.read c.header_octets-h.ensures.0

pub returns-in_err-both : goal.returns-in_err-both
returns-in_err-both c =
    let a = c.args in
    let e : c.from_residual.result ≡ Err c.in_err-both.field-0.0 = search rules in
    call_refused merged a.format a.a.now a.b.now a.out.now c.from_residual.result _ _ _ _ (ap joined_counts e) c.in_err-both.ensures

pub split_at-requires : goal.split_at-requires
split_at-requires c =
    let at = goal.at.split_at-requires c in (first_parts at.After-header_octets-h (both_there at.In_ok-both)).long

pub split_at-requires-2 : goal.split_at-requires-2
split_at-requires-2 c =
    let at = goal.at.split_at-requires-2 c in (second_parts at.After-header_octets-h (both_there at.In_ok-both)).long

pub merged_octets-requires : goal.merged_octets-requires
merged_octets-requires c =
    let at = goal.at.merged_octets-requires c in
    let p = both_there at.In_ok-both in
    let x = first_parts at.After-header_octets-h p in
    let y = second_parts at.After-header_octets-h p in
    (p.first.xs, p.second.xs, rw c.split_at.ensures.back x.body, rw c.split_at-2.ensures.back y.body)

-- behind them, how many octets the merged recording has
module _ (c : After-merged_octets)
    (p : BothRead c.args.format c.args.a.now c.args.b.now (format_of c.in_ok-both.both.format) c.in_ok-both.both.first_frames c.in_ok-both.both.second_frames)
    (x : Parts (format_of c.in_ok-both.both.format) c.args.a.now p.first.xs c.header_octets-h.result)
    (y : Parts (format_of c.in_ok-both.both.format) c.args.b.now p.second.xs c.header_octets-h.result) where
  first_body : Body (format_of c.in_ok-both.both.format) c.split_at.result.1.now p.first.xs
  first_body = rw c.split_at.ensures.back x.body

  second_body : Body (format_of c.in_ok-both.both.format) c.split_at-2.result.1.now p.second.xs
  second_body = rw c.split_at-2.ensures.back y.body

  behind_size : c.merged_octets.result ≡ length (layouts (format_of c.in_ok-both.both.format) (merged p.first.xs p.second.xs))
  behind_size = c.merged_octets.ensures.0 p.first.xs p.second.xs first_body second_body

  size : c.header_octets-h.result + c.merged_octets.result ≡ length (write_recording (format_of c.in_ok-both.both.format) (merged p.first.xs p.second.xs))
  size = recording_size _ (merged p.first.xs p.second.xs) c.header_octets-h.result c.merged_octets.result c.header_octets-h.ensures.0 behind_size

pub returns-then-octets-gt-LIMIT : goal.returns-then-octets-gt-LIMIT
returns-then-octets-gt-LIMIT c =
    let a = c.args in
    let at = goal.at.returns-then-octets-gt-LIMIT c in
    let p = both_there at.In_ok-both in
    let h = at.After-header_octets-h in
    let n = size at.After-merged_octets p (first_parts h p) (second_parts h p) in
    call_long merged a.format a.a.now a.b.now a.out.now _ _ _ p _ (omega (arith, n, c.if-octets-gt-LIMIT.true))
    (ap (λ e. joined_counts (Err e)) c.into.ensures)

pub returns-then-out-octets : goal.returns-then-out-octets
returns-then-out-octets c =
    let a = c.args in
    let at = goal.at.returns-then-out-octets c in
    let p = both_there at.In_ok-both in
    let h = at.After-header_octets-h in
    let n = size at.After-merged_octets p (first_parts h p) (second_parts h p) in
    call_short merged a.format a.a.now a.b.now a.out.now _ _ _ p _ (omega (arith, n, c.if-octets-gt-LIMIT.false)) (omega (arith, n, c.if-out-octets.true))
    (ap (λ e. joined_counts (Err e)) c.into-then-out-octets.ensures)

pub write_merged-requires : goal.write_merged-requires
write_merged-requires c =
    let at = goal.at.write_merged-requires c in
    let p = both_there at.In_ok-both in
    let h = at.After-header_octets-h in
    let x = first_parts h p in
    let y = second_parts h p in
    let m = at.After-merged_octets in
    let n = c.header_octets-h.result in
    let d = c.put.new.out in
    (p.first.xs, p.second.xs, first_body m p x y, second_body m p x y, omega (arith, behind_size m p x y, length-take (length d - n) (drop n d), length-drop n d, c.if-out-octets.false))

pub returns : goal.returns
returns c =
    let a = c.args in
    let at = goal.at.returns c in
    let p = both_there at.In_ok-both in
    let h = at.After-header_octets-h in
    let x = first_parts h p in
    let y = second_parts h p in
    let m = at.After-merged_octets in
    let n = size m p x y in
    call_made merged a.format a.a.now a.b.now a.out.now _ _ _ p _ _ _ _ (omega (arith, n, c.if-octets-gt-LIMIT.false)) (omega (arith, n, c.if-out-octets.false))
    (c.max.ensures ∙ ap₂ max p.first.frames p.second.frames ∙ sym (length-merged p.first.xs p.second.xs)) n refl
    (recording-written _ (merged p.first.xs p.second.xs) c.header_octets-h.result _ a.out.now c.put.new.out c.write_merged.new.out c.header_octets-h.ensures.0 (c.split_at.ensures.front ∙ x.header) c.put.ensures
    (omega (arith, behind_size m p x y, c.if-out-octets.false)) (c.write_merged.ensures p.first.xs p.second.xs (first_body m p x y) (second_body m p x y)))
