-- `amrwb_link_down` meets its contract: the entry's promise, as numbers. Assumes nothing.
use Rattle.std.proofs.Common.{refl, ap, ap₂, length, ◌∙◌}
use Rattle.links.specs.Calls.{down_call}
use Rattle.downlink.specs.Answers.{next_link}
use Rattle.downlink.proofs.DownLaws.{next_after}
use Rattle.link_answers.specs.Flat.{down_numbers}
use Rattle.level_three.proofs.amrwb_link_down.Goals as goal

pub returns : goal.returns
returns c =
    let a = c.args in
    let p = c.split_frame-answer.ensures in
    record {
      answer = c.into.ensures ∙ ap₂ down_numbers p.answer (c.forwarded_after-forwarded.ensures a.link refl ∙ ap (λ d. next_link d a.link) p.answer
          ∙ next_after (down_call a.link a.frame.now (length a.s1.now) (length a.s2.now) (length a.s3.now)) a.link);
      buffer1 = p.buffer1;
      buffer2 = p.buffer2;
      buffer3 = p.buffer3;
    }
