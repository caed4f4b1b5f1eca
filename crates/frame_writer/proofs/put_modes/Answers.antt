-- `frame_writer::put_modes` meets its contract: the CRC is that of the core behind the header, and the three header octets are stored. Assumes nothing.
use borrow.Author.Rules.{rules}
use mathlib.Core.Path.{◌≡◌, refl, ap, ◌∙◌}
use mathlib.Core.Bool.{true}
use mathlib.Core.List.{List}
use Prim.Native.Nat.{ℕ, ◌+◌, ◌-◌, ◌*◌, ◌≤◌}
use native.Mathlib.Omega.{arith}
use lib.ListN.{length, drop, length-set, length-drop}
use lib.Seq.{length-take-le}
use Rattle.definitions.specs.Frames.{if1, class_a, octets, carries_modes}
use Rattle.definitions.proofs.Tables.{class_a_within}
use Rattle.frame.proofs.TableLaws.{modes_carried, room}
use Rattle.frame_writer.proofs.WriterLaws.{modes_known, modes_is}
use Rattle.frame_writer.proofs.put_modes.Goals as goal

-- the frame has its three header octets, and its core
sized : (t : ℕ) (d : List ℕ) → carries_modes if1 t ≡ true → octets if1 t ≤ length d → 4 ≤ length d
sized t d m r = omega (arith, (modes_carried if1 t (modes_known t m) m).1, r)

pub slice_bounds-crc_of-start : goal.slice_bounds-crc_of-start
slice_bounds-crc_of-start c = omega (arith, sized _ _ c.requires.0 c.requires.4)

pub slice_bounds-crc_of-count : goal.slice_bounds-crc_of-count
slice_bounds-crc_of-count c = omega (arith, sized _ _ c.requires.0 c.requires.4)

pub crc_of-crc-requires : goal.crc_of-crc-requires
crc_of-crc-requires c =
    let t = c.args.h.frame_type in
    let d = c.args.out.now in
    let k = modes_known t c.requires.0 in
    omega (arith, c.class_a.ensures.0 ∙ ap class_a c.from.ensures, (class_a_within t k).0, (room if1 t k).0, (modes_carried if1 t k c.requires.0).0, c.requires.4, length-take-le (length d - 3) (drop 3 d) (omega (arith, length-drop 3 d)), length-drop 3 d)

pub bounds-out-0 : goal.bounds-out-0
bounds-out-0 c = omega (arith, sized _ _ c.requires.0 c.requires.4)

pub bounds-out-1 : goal.bounds-out-1
bounds-out-1 c = simp length-set (omega (arith, sized _ _ c.requires.0 c.requires.4))

pub bounds-out-2 : goal.bounds-out-2
bounds-out-2 c = simp length-set (omega (arith, sized _ _ c.requires.0 c.requires.4))

pub returns : goal.returns
returns c =
    λ front rest core three size there.
    let a = c.args in
    modes_is a.h a.out.now c.class_a.result c.requires.0 c.requires.3 (c.class_a.ensures.0 ∙ ap class_a c.from.ensures) front rest core three size there
    c.first_octet.result (a.h.indication * 16 + a.h.request) c.crc_of-crc.result (search rules) (omega (arith, c.requires.2, c.requires.3)) (search rules) c.first_octet.ensures refl c.crc_of-crc.ensures
