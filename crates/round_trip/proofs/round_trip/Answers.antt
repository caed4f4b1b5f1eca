-- `round_trip::round_trip` meets its contract: the second call gets what the first wrote. Assumes nothing.
use borrow.Author.Rules.{rules}
use mathlib.Core.Path.{◌≡◌, ap}
use Rattle.std.specs.Prelude.{Err}
use Rattle.recording_reader.specs.Answers.{counts_of}
use Rattle.round_trip.proofs.TripLaws.{stays, comes_back}
use Rattle.round_trip.proofs.round_trip.Goals as goal

pub returns-in_err-written : goal.returns-in_err-written
returns-in_err-written c =
    let a = c.args in
    let e : c.from_residual.result ≡ Err c.in_err-written.field-0.0 = search rules in
    stays a.from a.to a.request a.s.now a.mid.now _ a.out.now _ _ _ _ (λ i. (c.type_inv.s i).fits) (rw e c.in_err-written.ensures) (ap counts_of e)

pub returns : goal.returns
returns c =
    let a = c.args in
    comes_back a.from a.to a.request a.s.now a.mid.now _ c.convert.result _ _ c.convert.ensures (ap counts_of c.in_ok-written.was) a.out.now _ _ (λ i. search rules) c.convert-2.ensures
