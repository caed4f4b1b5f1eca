-- `link_state::is_apart` meets its contract: the chain looks at each of the others. Assumes nothing.
use borrow.Author.Tests.{tests}
use Rattle.std.proofs.Common.{rules, ◌∙◌}
use Rattle.std.proofs.lemmas.Iterator.{YieldsList-from_slice}
use Rattle.std.proofs.lemmas.Iterator.Search.{all_from_yields_List}
use Rattle.link_state.proofs.StateLaws.{is_apart, apart_is_all}
use Rattle.link_state.proofs.is_apart.Goals as goal

pub returns : goal.returns
returns c =
    let a = c.args in
    all_from_yields_List (is_apart a.c) _ _ c.all.result c.all.ensures.ran
    (YieldsList-from_slice a.others.now c.iter.ensures.rest) (λ x b q k. search (rules, tests))
    ∙ apart_is_all a.c a.others.now
