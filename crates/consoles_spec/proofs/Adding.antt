-- What an accepted add did. Assumes nothing.
use mathlib.Core.Path.{◌≡◌}
use Prim.Native.Nat.{ℕ, ◌<◌}
use lib.Dec.{ltb}
use borrow.Author.Tests.{ltb-true}
use Rattle.definitions.specs.Outcome.{ok}
use Rattle.definitions.proofs.Outcome.{unless-ok}
use Rattle.consoles_spec.specs.declared.Consoles.{Consoles}
use Rattle.consoles_spec.specs.Calls.{waiting_at, after_taking, add_call}

pub add-ok : (s : Consoles) (d : ℕ) (t : Consoles) → add_call s d ≡ ok t → (d < 8) × (waiting_at d s < 100) × (after_taking d s ≡ t)
unfolding add_call
add-ok s d t h =
    let a = unless-ok 11 (ltb d 8) _ t h in
    let b = unless-ok 27 (ltb (waiting_at d s) 100) _ t a.1 in
    (ltb-true _ _ a.0, ltb-true _ _ b.0, cc b.1)
