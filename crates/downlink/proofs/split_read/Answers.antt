-- `downlink::split_read` meets its contract: the combination of the frame's type splits its core. Assumes nothing.
use mathlib.Core.Path.{◌≡◌, refl, sym, ap, ◌∙◌}
use Rattle.bits.specs.Bits.{bits}
use Rattle.definitions.specs.Outcome.{ok}
use Rattle.definitions.specs.Frames.{if1, header_bits, core_in}
use Rattle.combinations.specs.Answers.{found_of}
use Rattle.links.specs.Sets.{combinations, by_type, lookup}
use Rattle.downlink.proofs.DownLaws.{bits-there, core-whole, frame_into}
use Rattle.downlink.proofs.split_read.Goals as goal
use Rattle.downlink.proofs.split_read.Goals.{In_ok-c, After-header_bits}

-- the combination was looked up
found : (c : In_ok-c) → ok c.in_ok-c.c ≡ lookup by_type c.args.h.frame_type (combinations c.args.link.now.set)
found c = ap (found_of 16) (sym c.in_ok-c.ensures.ok_part) ∙ c.lookup_type.ensures

-- where the core begins
begins : (c : After-header_bits) → c.header_bits.result ≡ header_bits if1 c.args.h.frame_type
begins c = c.header_bits.ensures.0 ∙ ap (header_bits if1) c.from.ensures

pub put_subflows-requires : goal.put_subflows-requires
put_subflows-requires c =
    let a = c.args in
    let at = goal.at.put_subflows-requires c in
    (c.header_bits.ensures.1, bits-there a.link.now a.h a.frame.now _ 0 0 0 (found at.In_ok-c) c.requires _ (begins at.After-header_bits), sym c.is_roomy.ensures ∙ c.if-not-is_roomy.false)

pub returns : goal.returns
returns c =
    let a = c.args in
    let at = goal.at.returns c in
    let f = found at.In_ok-c in
    frame_into a.link.now a.h a.frame.now _ _ _ _ f c.requires _ a.s1.now _ a.s2.now _ a.s3.now _ c.subflows_of.result (begins at.After-header_bits)
    (sym c.is_roomy.ensures ∙ c.if-not-is_roomy.false) c.put_subflows.ensures
    (c.subflows_of.ensures a.link.now (core_in if1 a.h.frame_type (bits a.frame.now)) refl (core-whole a.link.now a.h a.frame.now _ 0 0 0 f c.requires))
