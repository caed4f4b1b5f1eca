-- `downlink::down` meets its contract: the state after the call goes by its answer. Assumes nothing.
use mathlib.Core.Path.{refl, ap, ◌∙◌}
use lib.ListN.{length}
use Rattle.links.specs.Calls.{down_call}
use Rattle.downlink.specs.Answers.{next_link}
use Rattle.downlink.proofs.DownLaws.{next_after}
use Rattle.downlink.proofs.down.Goals as goal

pub returns : goal.returns
returns c =
    let a = c.args in
    let p = c.split_frame-answer.ensures in
    record {
      split = p;
      link = c.forwarded_after-forwarded.ensures a.link refl ∙ ap (λ d. next_link d a.link) p.answer
          ∙ next_after (down_call a.link a.frame.now (length a.s1.now) (length a.s2.now) (length a.s3.now)) a.link;
    }
