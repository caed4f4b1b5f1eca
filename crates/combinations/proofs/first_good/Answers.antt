-- `combinations::first_good` meets its contract: the chain gives the first of the set's places that passes both tests. Assumes nothing.
use borrow.Author.Tests.{tests}
use Rattle.std.proofs.Common.{rules, ◌&&◌}
use Rattle.std.proofs.lemmas.Iterator.{YieldsList-from_slice, YieldsList-from_take}
use Rattle.std.proofs.lemmas.Iterator.Consumers.{YieldsList-at, YieldsList-from_copied}
use Rattle.std.proofs.lemmas.Iterator.Search.{find_from_yields_List}
use Rattle.links.specs.Sets.{combination_good, combinations, has}
use Rattle.combinations.proofs.CombinationLaws.{lookup_from_first}
use Rattle.combinations.proofs.first_good.Goals as goal

pub returns : goal.returns
returns g c k n f =
    let set = c.args.set.now in
    let all = YieldsList-at c.take.ensures.source (YieldsList-from_slice set.places c.iter.ensures.rest) in
    let taken = YieldsList-from_take set.count all c.take.ensures.count in
    lookup_from_first k n (combinations set) c.find.result
    (find_from_yields_List (λ x. has k n x && combination_good x) _ _ c.find.result c.find.ensures.ran
    (YieldsList-from_copied (YieldsList-at c.copied.ensures.source taken)) (λ x b q r. (search rules, search (rules, tests, f x))))
