-- `uplink::up` meets its contract: what was judged is written. Assumes nothing.
use mathlib.Core.Path.{ap, ◌∙◌}
use lib.ListN.{length}
use Rattle.std.proofs.Common.{Ok}
use Rattle.uplink.proofs.UpLaws.{none-built, into_same}
use Rattle.uplink.proofs.up.Goals as goal

pub build_joined-requires : goal.build_joined-requires
build_joined-requires c = c.judge.ensures.core _ (c.in_ok-c.was ∙ ap Ok c.in-Some.is)

pub returns-in-None : goal.returns-in-None
returns-in-None c =
    let a = c.args in
    into_same _ _ a.out.now _ c.build.result
    (none-built a.link a.fqc a.rfci a.s.s1.now a.s.s2.now a.s.s3.now (length a.out.now) _ _ c.from-quality.ensures c.quality_of.ensures _ (c.in_ok-c.was ∙ ap Ok c.in-None.is) c.judge.ensures)
    c.build.ensures
