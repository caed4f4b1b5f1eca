-- `downlink_flows::put_subflow` meets its contract: of no bits nothing is written. Assumes nothing.
use native.Mathlib.Omega.{arith}
use Rattle.bits.specs.Bits.{bits}
use Rattle.downlink_flows.proofs.FlowLaws.{none-put}
use Rattle.downlink_flows.proofs.put_subflow.Goals as goal

pub returns-else-size-gt0 : goal.returns-else-size-gt0
returns-else-size-gt0 c = let a = c.args in none-put (bits a.frame.now) a.from a.size a.s.now (omega arith)
