-- `recording_writer::write_frames` meets its contract: what is written and what is still to come make the conversion. Assumes nothing.
use mathlib.Core.Path.{◌≡◌, ap, ◌∙◌}
use mathlib.Core.Bool.{true}
use mathlib.Core.List.{List}
use Prim.Native.Nat.{ℕ, ◌+◌, ◌-◌, ◌<◌, ◌≤◌}
use native.Mathlib.Omega.{arith}
use lib.ListN.{length, take, drop}
use Rattle.bits.specs.Bits.{bits}
use Rattle.definitions.specs.Frames.{Format, known, octets, type_in}
use Rattle.definitions.proofs.Tables.{sized}
use Rattle.frame.specs.Answers.{format_of}
use Rattle.recordings.specs.Recordings.{limit}
use Rattle.recording_writer.proofs.WriteLaws.{header_fits, header_put, Written, written_start, written-end, at_front, front_octets, front_room, part_type, part_carriable, part_written}
use Rattle.recording_writer.proofs.write_frames.Goals as goal

-- the frame at hand: its type, and the places behind it
module _ {f g : Format} {r : ℕ} {s d₀ d : List ℕ} {at to : ℕ} (w : Written f g r s d₀ d at to) (l : at < length s) (t : ℕ)
    (e : t ≡ type_in f (bits (take (length s - at) (drop at s)))) where
  type_is : t ≡ (at_front w l).x.type
  type_is = e ∙ part_type w l

  type-there : known t ≡ true
  type-there = ap known type_is ∙ (at_front w l).valid.type_known

  at_there : (m : ℕ) → m ≡ octets f t → (1 ≤ m) × (at + m ≤ length s)
  at_there m em =
      let q : m ≡ octets f (at_front w l).x.type = em ∙ ap (octets f) type_is in
      (omega (arith, (sized f (at_front w l).x.type (at_front w l).valid.type_known).some-octet), omega (arith, front_octets w l, w.within))

  to_there : (m : ℕ) → m ≡ octets g t → to + m ≤ limit
  to_there m em =
      let q : m ≡ octets g (at_front w l).x.type = em ∙ ap (octets g) type_is in
      omega (arith, (front_room w l).1)

pub slice_bounds-copy-end : goal.slice_bounds-copy-end
slice_bounds-copy-end c =
    (header_fits (format_of c.args.c.from) (format_of c.args.c.to) c.args.c.request c.requires.1.0 c.args.out.now _ c.requires.1.1.room c.header_octets-to.ensures.0 c.header_octets-to.ensures.1).0

pub slice_bounds-copy-end-2 : goal.slice_bounds-copy-end-2
slice_bounds-copy-end-2 c =
    (header_fits (format_of c.args.c.from) (format_of c.args.c.to) c.args.c.request c.requires.1.0 c.args.out.now _ c.requires.1.1.room c.header_octets-to.ensures.0 c.header_octets-to.ensures.1).1

pub copy-requires : goal.copy-requires
copy-requires c =
    (header_fits (format_of c.args.c.from) (format_of c.args.c.to) c.args.c.request c.requires.1.0 c.args.out.now _ c.requires.1.1.room c.header_octets-to.ensures.0 c.header_octets-to.ensures.1).2

pub loop-at-init : goal.loop-at-init
loop-at-init c =
    let a = c.args in
    let p = c.requires.1 in
    written_start (format_of a.c.from) (format_of a.c.to) a.c.request a.s.now a.out.now _ p.0 _ _ (λ i. (c.type_inv.s i).fits) p.1.read p.1.within p.1.room
    c.header_octets-at.ensures.0 c.header_octets-to.ensures.0
    (header_put (format_of a.c.to) _ _ a.out.now c.header_octets-to.ensures.0 c.copy.ensures)

pub carry_frame-requires : goal.carry_frame-requires
carry_frame-requires c =
    let w = c.loop-at.invariant in
    ((at_front w c.loop-at-test.true).x, part_carriable w c.loop-at-test.true c.requires.0)

pub octets_by_bits-at-requires : goal.octets_by_bits-at-requires
octets_by_bits-at-requires c =
    type-there c.loop-at.invariant c.loop-at-test.true _ (c.from-t.ensures ∙ c.type_in.ensures)

pub overflow_add-at : goal.overflow_add-at
overflow_add-at c =
    omega (arith, at_there c.loop-at.invariant c.loop-at-test.true _ (c.from-t.ensures ∙ c.type_in.ensures) _ c.octets_by_bits-at.ensures)

pub octets_by_bits-to-requires : goal.octets_by_bits-to-requires
octets_by_bits-to-requires c =
    type-there c.loop-at.invariant c.loop-at-test.true _ (c.from-t.ensures ∙ c.type_in.ensures)

pub overflow_add-to : goal.overflow_add-to
overflow_add-to c =
    omega (arith, to_there c.loop-at.invariant c.loop-at-test.true _ (c.from-t.ensures ∙ c.type_in.ensures) _ c.octets_by_bits-to.ensures)

pub loop-at-smaller : goal.loop-at-smaller
loop-at-smaller c =
    omega (arith, at_there c.loop-at.invariant c.loop-at-test.true _ (c.from-t.ensures ∙ c.type_in.ensures) _ c.octets_by_bits-at.ensures)

pub loop-at-preserved : goal.loop-at-preserved
loop-at-preserved c =
    let w = c.loop-at.invariant in
    let l = c.loop-at-test.true in
    part_written w l c.carry_frame.new.out c.from-t.result c.octets_by_bits-at.result c.octets_by_bits-to.result
    (c.from-t.ensures ∙ c.type_in.ensures ∙ part_type w l) c.octets_by_bits-at.ensures c.octets_by_bits-to.ensures
    (c.carry_frame.ensures (at_front w l).x (part_carriable w l c.requires.0))

pub returns : goal.returns
returns c =
    λ xs p.
    let a = c.args in
    written-end (format_of a.c.from) (format_of a.c.to) a.c.request a.s.now a.out.now _ c.loop-at.out c.loop-at.at c.loop-at.to xs (omega arith) c.loop-at.invariant
    (header_put (format_of a.c.to) _ _ a.out.now c.header_octets-to.ensures.0 c.copy.ensures) p.read
