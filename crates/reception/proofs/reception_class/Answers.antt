-- `reception::reception_class` meets its contract: the numbers, then the type, then its class. Assumes nothing.
use borrow.Author.Rules.{rules}
use mathlib.Core.Path.{◌≡◌, ap, ◌∙◌}
use borrow.Author.Tests.{le-leb}
use Rattle.std.specs.Prelude.{Err}
use Rattle.definitions.specs.Outcome.{ok, refused}
use Rattle.definitions.specs.Reception.{reception_class}
use Rattle.frame.proofs.TableLaws.{type_taken, type_refused}
use Rattle.reception.specs.Classes.{classified_of}
use Rattle.reception.proofs.reception_class.Goals as goal

pub returns-in_err-octets_known : goal.returns-in_err-octets_known
unfolding reception_class
returns-in_err-octets_known c =
    let a = c.args in
    let r : c.from_residual.result ≡ Err c.in_err-octets_known.field-0.0 = search rules in
    let p = type_refused _ _ _ c.in_err-octets_known.ensures.judged in
    ap classified_of r ∙ ap refused p.1 ∙ rw (le-leb a.t 15 c.if-t-gt15.false, le-leb a.q 1 c.if-q-gt1.false, le-leb a.sti 1 c.if-sti-gt1.false, p.0)

pub returns : goal.returns
unfolding reception_class
returns c =
    let a = c.args in
    let p = type_taken _ _ _ c.in_ok-octets_known.ensures.judged in
    rw (le-leb a.t 15 c.if-t-gt15.false, le-leb a.q 1 c.if-q-gt1.false, le-leb a.sti 1 c.if-sti-gt1.false, p.0) (ap ok c.class_of.ensures)
