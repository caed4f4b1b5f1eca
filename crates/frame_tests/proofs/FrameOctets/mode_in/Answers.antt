-- `FrameOctets::mode_in` meets its contract: a frame that carries modes has four octets or more. Assumes nothing.
use native.Mathlib.Omega.{arith}
use Rattle.frame.specs.Answers.{format_of}
use Rattle.frame.proofs.TableLaws.{modes_carried}
use Rattle.frame_tests.proofs.FrameOctets.mode_in.Goals as goal

pub field_at-requires : goal.field_at-requires
field_at-requires c =
    let x = c.args.self.now in
    let m = modes_carried (format_of x.format) x.frame_type x.type_known (cc) in
    (omega arith, omega (arith, x.size_is, x.enough))
