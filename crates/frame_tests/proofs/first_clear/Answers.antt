-- `frame_tests::first_clear` meets its contract: each format has its mask. Assumes nothing.
use mathlib.Core.Path.{sym, ap, ◌∙◌}
use mathlib.Core.Bool.{◌&&◌}
use Prim.Native.Nat.{◌+◌}
use lib.ListN.{drop}
use Rattle.bits.specs.Bits.{bits, clear}
use Rattle.definitions.specs.Frames.{spare_before, spare_after}
use Rattle.frame.specs.Answers.{format_of}
use Rattle.frame_tests.proofs.TestLaws.{first_if1, first_if2, first_storage}
use Rattle.frame_tests.proofs.first_clear.Goals as goal

pub returns-in-If1 : goal.returns-in-If1
returns-in-If1 c =
    let a = c.args in
    first_if1 a.s.now (c.type_inv.s 0).fits c.requires ∙ sym (ap (λ f. clear (spare_before (format_of f)) (bits a.s.now) && clear (spare_after (format_of f)) (drop (spare_before (format_of f) + 5) (bits a.s.now))) c.in-If1.is)

pub returns-in-If2 : goal.returns-in-If2
returns-in-If2 c =
    let a = c.args in
    first_if2 a.s.now ∙ sym (ap (λ f. clear (spare_before (format_of f)) (bits a.s.now) && clear (spare_after (format_of f)) (drop (spare_before (format_of f) + 5) (bits a.s.now))) c.in-If2.is)

pub returns-in-Storage : goal.returns-in-Storage
returns-in-Storage c =
    let a = c.args in
    first_storage a.s.now (c.type_inv.s 0).fits c.requires ∙ sym (ap (λ f. clear (spare_before (format_of f)) (bits a.s.now) && clear (spare_after (format_of f)) (drop (spare_before (format_of f) + 5) (bits a.s.now))) c.in-Storage.is)
