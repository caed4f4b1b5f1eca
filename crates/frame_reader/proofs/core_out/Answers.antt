-- `frame_reader::core_out` meets its contract: the core is the run of K bits behind the header. Assumes nothing.
use mathlib.Core.Path.{◌≡◌, sym, ap, ap₂, ◌∙◌, subst}
use Prim.Native.Nat.{◌+◌, ◌/◌, ◌≤◌}
use native.Mathlib.Omega.{arith}
use lib.ListN.{length, take, drop, length-drop}
use lib.Seq.{length-take-le}
use mathlib.Core.List.{◌++◌}
use Rattle.bits.specs.Bits.{bits, pack, octets_for}
use Rattle.bits.proofs.BitLaws.{length-bits}
use Rattle.definitions.specs.Frames.{core_bits, header_bits, core_in}
use Rattle.frame.specs.Answers.{format_of}
use Rattle.definitions.proofs.Tables.{known-below}
use Rattle.frame.proofs.TableLaws.{room}
use Rattle.frame_reader.proofs.CallLaws.{core-written}
use Rattle.frame_reader.proofs.core_out.Goals as goal

pub core_bits-k-requires : goal.core_bits-k-requires
core_bits-k-requires c = rw c.from-t.ensures (known-below _ c.requires.0)

pub put_run-requires : goal.put_run-requires
put_run-requires c =
    let f = format_of c.args.f in
    let t = c.args.h.frame_type in
    let p = room f t c.requires.0 in
    let k = c.core_bits-k.ensures.0 ∙ ap core_bits c.from-t.ensures in
    let hb = c.header_bits.ensures.0 ∙ ap (header_bits f) c.from-t.ensures in
    (omega arith, omega arith, omega arith, omega arith)

pub returns : goal.returns
returns c =
    let a = c.args in
    let f = format_of a.f in
    let t = a.h.frame_type in
    let bs = bits a.s.now in
    let k = c.core_bits-k in
    let k_is = k.ensures.0 ∙ ap core_bits c.from-t.ensures in
    let hb_is = c.header_bits.ensures.0 ∙ ap (header_bits f) c.from-t.ensures in
    let p = room f t c.requires.0 in
    let lc = length-take-le (core_bits t) (drop (header_bits f t) bs) (omega (arith, length-drop (header_bits f t) bs, length-bits a.s.now)) in
    let em : c.div_ceil-m.result ≡ (k.result + 7) / 8 = omega (arith, c.div_ceil-m.ensures) in
    rw em (core-written a.h (core_in f t bs) a.core.now k.result k_is c.put_run.new.dst (subst (λ m. m ≤ length a.core.now) em c.if-core-m.false)
    (lc ∙ sym k_is)
    (c.put_run.ensures ∙ ap₂ (λ n m. pack (take n (drop m bs)) ++ drop (octets_for (0 + k.result)) a.core.now) k_is hb_is))
