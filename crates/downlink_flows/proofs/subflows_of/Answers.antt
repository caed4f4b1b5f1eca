-- `downlink_flows::subflows_of` meets its contract: what is answered is counted from the sub-flows' sizes. Assumes nothing.
use mathlib.Core.Path.{sym, ap, ◌∙◌}
use mathlib.Core.Bool.{cond}
use Rattle.frame.specs.Answers.{frame_with}
use Rattle.links.specs.Calls.{nothing, request, forwards}
use Rattle.downlink_flows.proofs.FlowLaws.{numbers-split}
use Rattle.downlink_flows.proofs.subflows_of.Goals as goal

pub returns : goal.returns
returns c =
    λ l core e size.
    let a = c.args in
    numbers-split l a.h a.c core size _ _ _ _ _ c.fqc_of.ensures c.octets_for.ensures c.octets_for-2.ensures c.octets_for-3.ensures
    (c.forward_of.ensures core ∙ ap (λ last. cond (forwards last (frame_with a.h core)) (request a.h.request) nothing) (sym e))
