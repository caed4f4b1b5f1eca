-- `FrameOctets::fill_clear` meets its contract: the filling is the last bits of the frame's last octet. Assumes nothing.
use native.Mathlib.Omega.{arith}
use Rattle.definitions.proofs.Tables.{sized}
use Rattle.frame.specs.Answers.{format_of}
use Rattle.frame.proofs.TableLaws.{room}
use Rattle.frame_tests.proofs.TestLaws.{fill_is}
use Rattle.frame_tests.proofs.FrameOctets.fill_clear.Goals as goal

pub low_bits-requires : goal.low_bits-requires
low_bits-requires c =
    let x = c.args.self.now in
    let q = (sized (format_of x.format) x.frame_type x.type_known).some-octet in
    (omega (arith, c.fill_bits-k.ensures.1), omega (arith, x.size_is), x.enough)

pub returns : goal.returns
returns c =
    let x = c.args.self.now in
    let f = format_of x.format in
    fill_is f x.frame_type x.s.now x.size c.fill_bits-k.result c.low_bits.result
    x.size_is (cc c.fill_bits-k.ensures.0) (room f x.frame_type x.type_known).0 c.low_bits.ensures
