-- `FrameOctets::header` meets its contract, field by field. Assumes nothing.
use mathlib.Core.Path.{ap, ◌∙◌}
use native.Mathlib.Omega.{arith}
use Rattle.bits.specs.Bits.{num, bits}
use mathlib.Core.Bool.{cond}
use lib.ListN.{drop}
use Rattle.definitions.specs.Frames.{carries_modes, core_in, frame_in}
use Rattle.frame.specs.Answers.{format_of}
use Rattle.definitions.proofs.Tables.{sized}
use Rattle.definitions.proofs.Frames.{frame_path}
use Rattle.frame_tests.proofs.FrameOctets.header.Goals as goal

pub quality_in-requires : goal.quality_in-requires
quality_in-requires c =
    let x = c.args.self.now in
    omega (arith, x.size_is, x.enough, (sized (format_of x.format) x.frame_type x.type_known).some-octet)

pub returns : goal.returns
unfolding frame_in
returns c =
    let x = c.args.self.now in
    let f = format_of x.format in
    let bs = bits x.s.now in
    let et = x.type_is in
    frame_path _ _ et c.quality_in.ensures (c.mode_in.ensures ∙ ap (λ t. cond (carries_modes f t) (num 4 (drop 8 bs)) 0) et)
    (c.mode_in-2.ensures ∙ ap (λ t. cond (carries_modes f t) (num 4 (drop 12 bs)) 0) et) (ap (λ t. core_in f t bs) et)
