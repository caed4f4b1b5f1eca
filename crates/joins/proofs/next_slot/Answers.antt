-- `joins::next_slot` meets its contract: types above a SID frame's are those of SPEECH_LOST and NO_DATA. Assumes nothing.
use mathlib.Core.Path.{◌≡◌, sym, ap, ◌∙◌}
use mathlib.Core.Bool.{cond}
use mathlib.Core.List.{List, ◌∷◌}
use Prim.Native.Nat.{ℕ}
use native.Mathlib.Omega.{arith}
use lib.ListN.{length}
use Rattle.bits.specs.Bits.{bits}
use Rattle.definitions.specs.Frames.{Frame, layout, type_in}
use Rattle.frame.specs.Answers.{format_of}
use Rattle.joins_spec.specs.Joining.{is_gap}
use Rattle.joins_spec.proofs.Slots.{gap-none, gap-there}
use Rattle.joins.specs.Answers.{Body, NextSlot}
use Rattle.joins.proofs.BodyLaws.{first-valid, first-some, type_alone, some-frame}
use Rattle.joins.proofs.next_slot.Goals as goal
use Rattle.joins.proofs.next_slot.Goals.{After-from}

pub type_in-requires : goal.type_in-requires
type_in-requires c =
    let r = c.requires in
    let m = some-frame _ r.2.0 r.2.1 r.0 in
    omega (arith, ap length (c.split_frame.ensures m.0 m.1 m.2).0, first-some _ m.0 m.1 m.2)

module _ (c : After-from) where
  first_frame : (u : Frame) × (us : List Frame) × Body (format_of c.args.f) c.args.a.now (u ∷ us)
  first_frame = some-frame _ c.requires.2.0 c.requires.2.1 c.requires.0

  second_frame : (v : Frame) × (vs : List Frame) × Body (format_of c.args.f) c.args.b.now (v ∷ vs)
  second_frame = some-frame _ c.requires.3.0 c.requires.3.1 c.requires.1

  type_is : c.from.result ≡ first_frame.0.type
  type_is =
      let u = first_frame in
      c.from.ensures ∙ c.type_in.ensures ∙ ap (λ s. type_in (format_of c.args.f) (bits s)) (c.split_frame.ensures u.0 u.1 u.2).0
      ∙ type_alone (format_of c.args.f) u.0 (first-valid _ u.0 u.1 u.2)

  next : (z : List ℕ) → z ≡ layout (format_of c.args.f) (cond (is_gap first_frame.0) second_frame.0 first_frame.0)
      → NextSlot (format_of c.args.f) c.args.a.now c.args.b.now z c.split_frame.result.1.now c.split_frame-2.result.1.now
  next z e =
      let u = first_frame in
      let v = second_frame in
      record {
        u = u.0;
        v = v.0;
        us = u.1;
        vs = v.1;
        in_first = u.2;
        in_second = v.2;
        behind_first = (c.split_frame.ensures u.0 u.1 u.2).1;
        behind_second = (c.split_frame-2.ensures v.0 v.1 v.2).1;
        chosen = e;
      }

pub returns-then-from-le-SID : goal.returns-then-from-le-SID
returns-then-from-le-SID c =
    let at = (goal.at.returns-then-from-le-SID c).After-from in
    let u = first_frame at in
    next at _ ((c.split_frame.ensures u.0 u.1 u.2).0
    ∙ sym (ap (λ b. layout (format_of c.args.f) (cond b (second_frame at).0 u.0)) (gap-none u.0 (omega (arith, type_is at, c.if-from-le-SID.true)))))

pub returns-else-from-le-SID : goal.returns-else-from-le-SID
returns-else-from-le-SID c =
    let at = (goal.at.returns-else-from-le-SID c).After-from in
    let u = first_frame at in
    let v = second_frame at in
    next at _ ((c.split_frame-2.ensures v.0 v.1 v.2).0
    ∙ sym (ap (λ b. layout (format_of c.args.f) (cond b v.0 u.0)) (gap-there u.0 (omega (arith, type_is at, c.if-from-le-SID.false)))))
