-- The turn goes around the ring, and a console that waits is served within eight slots. Assumes nothing.
use Rattle.consoles_spec.proofs.RoundRobin.{round_robin}
use Rattle.consoles_spec.proofs.round_robin_claim.Goals as goal

pub returns : goal.returns
returns c = round_robin
