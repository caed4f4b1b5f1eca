-- `frame_builder::core_fill_clear` meets its contract: an empty core has no filling bits. Assumes nothing.
use mathlib.Core.Path.{◌∙◌}
use borrow.Author.Tests.{eq-eqb}
use Rattle.frame_builder.proofs.BuilderLaws.{fill_none}
use Rattle.frame_builder.proofs.core_fill_clear.Goals as goal

pub returns-then-n-eq0 : goal.returns-then-n-eq0
returns-then-n-eq0 c =
    eq-eqb _ _ c.if-n-eq0.true ∙ fill_none c.args.core.now c.args.k c.requires.0 c.if-n-eq0.true
