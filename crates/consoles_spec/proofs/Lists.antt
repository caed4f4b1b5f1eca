-- What stands at a place of a list after a store at another, or at the same. Assumes nothing.
use mathlib.Core.Path.{◌≡◌, refl, sym, subst}
use mathlib.Core.Bool.{Bool, true, false, cond}
use mathlib.Core.List.{List}
use Prim.Native.Nat.{ℕ, ◌<◌}
use lib.Dec.{eqb}
use lib.ListN.{length, get_or, set}
use lib.Seq.{get_or-set_same, get_or-set_other}
use borrow.Author.Tests.{eqb-true, eqb-false}

pub get_or-set : (w : List ℕ) (d v c : ℕ) → d < length w → get_or (set w d v) c 0 ≡ cond (eqb d c) v (get_or w c 0)
get_or-set w d v c h = go (eqb d c) refl
  where
    go : (b : Bool) → eqb d c ≡ b → get_or (set w d v) c 0 ≡ cond b v (get_or w c 0)
    go true e = subst (λ c. get_or (set w d v) c 0 ≡ v) (eqb-true d c e) (get_or-set_same w d v 0 h)
    go false e = get_or-set_other w d c v 0 (λ x. eqb-false d c e (sym x))
