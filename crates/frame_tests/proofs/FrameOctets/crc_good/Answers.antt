-- `FrameOctets::crc_good` meets its contract: Class A is the core's beginning, behind three octets. Assumes nothing.
use mathlib.Core.Path.{◌≡◌, ap, ◌∙◌}
use mathlib.Core.Bool.{not}
use native.Mathlib.Omega.{arith}
use lib.ListN.{length, drop, length-drop}
use lib.Seq.{length-take-le}
use Prim.Native.Nat.{◌-◌}
use Rattle.frame.specs.Answers.{format_of}
use Rattle.definitions.specs.Frames.{class_a}
use Rattle.definitions.proofs.Tables.{class_a_within}
use Rattle.frame.proofs.TableLaws.{modes_carried, room}
use Rattle.frame_tests.proofs.TestLaws.{crc_is, no_crc}
use Rattle.frame_tests.proofs.FrameOctets.crc_good.Goals as goal

pub field_at-requires : goal.field_at-requires
field_at-requires c =
    let x = c.args.self.now in
    let m = modes_carried (format_of x.format) x.frame_type x.type_known (cc) in
    (omega arith, omega (arith, x.size_is, x.enough))

pub slice_bounds-crc_of-count : goal.slice_bounds-crc_of-count
slice_bounds-crc_of-count c =
    let x = c.args.self.now in
    let m = modes_carried (format_of x.format) x.frame_type x.type_known (cc) in
    omega (arith, x.size_is, x.enough)

pub slice_bounds-crc_of-start : goal.slice_bounds-crc_of-start
slice_bounds-crc_of-start c =
    let x = c.args.self.now in
    let m = modes_carried (format_of x.format) x.frame_type x.type_known (cc) in
    omega (arith, x.size_is, x.enough)

pub crc_of-requires : goal.crc_of-requires
crc_of-requires c =
    let x = c.args.self.now in
    let s = x.s.now in
    let f = format_of x.format in
    let k = x.type_known in
    let m = modes_carried f x.frame_type k (cc) in
    let e : c.class_a.result ≡ class_a x.frame_type = cc c.class_a.ensures.0 in
    let a = class_a_within x.frame_type k in
    let r = room f x.frame_type k in
    let l = length-take-le (length s - 3) (drop 3 s) (omega (arith, length-drop 3 s)) in
    omega (arith, x.size_is, x.enough)

pub returns-then-not-carries_modes : goal.returns-then-not-carries_modes
returns-then-not-carries_modes c =
    let x = c.args.self.now in
    ap not c.if-not-carries_modes.true ∙ no_crc (format_of x.format) x.s.now x.frame_type x.type_is (cc)

pub returns-else-not-carries_modes : goal.returns-else-not-carries_modes
returns-else-not-carries_modes c =
    let x = c.args.self.now in
    crc_is (format_of x.format) x.s.now x.frame_type c.class_a.result c.field_at.result c.crc_of.result x.type_is x.type_known
    (cc) (cc c.class_a.ensures.0) c.field_at.ensures c.crc_of.ensures
