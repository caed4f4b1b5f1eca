-- `FrameOctets::spare_clear` meets its contract: the first octet's spare bits, and the filling. Assumes nothing.
use mathlib.Core.Path.{◌∙◌}
use native.Mathlib.Omega.{arith}
use Rattle.bits.specs.Bits.{bits}
use Rattle.frame.specs.Answers.{format_of}
use Rattle.definitions.proofs.Tables.{sized}
use Rattle.frame_tests.proofs.TestLaws.{spare-first, spare_fill}
use Rattle.frame_tests.proofs.FrameOctets.spare_clear.Goals as goal

pub first_clear-requires : goal.first_clear-requires
first_clear-requires c =
    let x = c.args.self.now in
    omega (arith, x.size_is, x.enough, (sized (format_of x.format) x.frame_type x.type_known).some-octet)

pub returns-then-first_clear : goal.returns-then-first_clear
returns-then-first_clear c =
    let x = c.args.self.now in
    spare_fill (format_of x.format) (bits x.s.now) _ c.first_clear.ensures c.if-first_clear.true x.frame_type _ x.type_is c.fill_clear.ensures

pub returns-else-first_clear : goal.returns-else-first_clear
returns-else-first_clear c =
    let x = c.args.self.now in
    c.if-first_clear.false ∙ spare-first (format_of x.format) (bits x.s.now) _ c.first_clear.ensures c.if-first_clear.false
