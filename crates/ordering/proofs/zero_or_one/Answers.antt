-- `ordering::zero_or_one` meets its contract: it is the definition's test of each octet. Assumes nothing.
use borrow.Author.Rules.{rules}
use mathlib.Core.Path.{refl}
use lib.Dec.{leb}
use Rattle.std.proofs.lemmas.List.Recursion.{and_is}
use Rattle.definitions.specs.Order.{zero_or_one}
use Rattle.ordering.proofs.zero_or_one.Goals as goal

pub returns : goal.returns
returns c = and_is zero_or_one (λ o. leb o 1) refl (λ _ _. refl) c.args.row.now 0 _ (search rules) (search rules)
