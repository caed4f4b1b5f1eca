-- A look-up finds the combination that the key names, since no two in a set share an RFCI or a type: by induction over the set.
-- Assumes nothing.
use mathlib.Core.Path.{◌≡◌, refl, sym, ap, ◌∙◌}
use mathlib.Core.Bool.{Bool, true, false, not, ◌&&◌, ◌||◌, cond}
use mathlib.Core.Logic.{⊎_elim}
use mathlib.Core.List.{List, [], ◌∷◌, Memᴰ}
use Prim.Native.Nat.{ℕ, ◌+◌, ◌≤◌, ◌<◌}
use native.Mathlib.Omega.{arith}
use lib.Dec.{eqb, leb}
use lib.ListN.{length}
use borrow.Author.Tests.{leb-true, eqb-true, not-true}
use Rattle.std.proofs.lemmas.Bool.{and_from, or_cases}
use Rattle.bits.proofs.Tests.{and_left, and_right, given, every_below_lem}
use Rattle.definitions.specs.Outcome.{ok}
use Rattle.definitions.specs.Frames.{known, core_bits}
use Rattle.definitions.proofs.Frames.{never}
use Rattle.links.specs.declared.Combination.{Combination}
use Rattle.links.specs.Sets.{link_type, combination_good, unlike, all_good, most_combinations, set_good, Key, by_rfci, by_type, has, lookup}

-- ---- tests, taken apart

pub set-good : (cs : List Combination) → set_good cs ≡ true → (length cs ≤ most_combinations) × (all_good cs ≡ true)
unfolding set_good
set-good cs h =
    let g = and_right (leb 1 (length cs)) _ h in
    (leb-true _ _ (and_left _ _ g), and_right (leb (length cs) most_combinations) _ g)

pub record Good (c : Combination) : Type 0 where
  pub rfci : leb c.rfci 63 ≡ true
  pub type_known : known c.frame_type ≡ true
  pub sum : c.size1 + c.size2 + c.size3 ≡ core_bits c.frame_type

type_known : (t : ℕ) → link_type t ≡ true → known t ≡ true
unfolding known
type_known t h = given (link_type t) _ (every_below_lem 16 (λ t. not (link_type t) || known t) refl t below) h
  where
    below : t < 16
    below = ⊎_elim (λ e. omega (arith, leb-true t 9 e)) (λ e. omega (arith, eqb-true t 15 e)) (or_cases (leb t 9) (eqb t 15) h)

pub combination-good : (c : Combination) → combination_good c ≡ true → Good c
unfolding combination_good
combination-good c h =
    let g = and_right (leb c.rfci 63) _ h in
    record {
      rfci = and_left _ _ h;
      type_known = type_known c.frame_type (and_left _ _ g);
      sum = eqb-true _ _ (and_right (link_type c.frame_type) _ g);
    }

-- ---- look-ups

-- what is found
pub record Found (k : Key) (n : ℕ) (cs : List Combination) (c : Combination) : Type 0 where
  pub named : has k n c ≡ true
  pub good : combination_good c ≡ true
  pub member : Memᴰ c cs

pub lookup-found : (k : Key) (n : ℕ) (cs : List Combination) (c : Combination) → lookup k n cs ≡ ok c → Found k n cs c
lookup-found k n [] c h = never 16 c h
lookup-found k n (d ∷ cs) c h = go (has k n d && combination_good d) refl h (lookup-found k n cs c)
  where
    go : (b : Bool) → (has k n d && combination_good d) ≡ b → cond b (ok d) (lookup k n cs) ≡ ok c → (lookup k n cs ≡ ok c → Found k n cs c)
        → Found k n (d ∷ cs) c
    go true e h later =
        let same : d ≡ c = cc in
        record {
          named = ap (has k n) (sym same) ∙ and_left _ _ e;
          good = ap combination_good (sym same) ∙ and_right (has k n d) _ e;
          member = Memᴰ.head (sym same);
        }
    go false e h later = let f = later h in record { named = f.named; good = f.good; member = Memᴰ.tail f.member }

has-apart : (k : Key) (n : ℕ) (d c : Combination) → not (eqb d.rfci c.rfci) ≡ true → not (eqb d.frame_type c.frame_type) ≡ true
    → has k n c ≡ true → has k n d ≡ false
has-apart by_rfci n d c i t h = ap (eqb d.rfci) (sym (eqb-true _ _ h)) ∙ not-true _ i
has-apart by_type n d c i t h = ap (eqb d.frame_type) (sym (eqb-true _ _ h)) ∙ not-true _ t

-- one that stands apart has another key than each of the others
apart-has : (k : Key) (n : ℕ) (d c : Combination) {cs : List Combination} → Memᴰ c cs → unlike d cs ≡ true → has k n c ≡ true → has k n d ≡ false
apart-has k n d c (Memᴰ.head {x = x} e) a h =
    has-apart k n d x (and_left _ _ a) (and_left _ _ (and_right (not (eqb d.rfci x.rfci)) _ a)) (ap (has k n) (sym e) ∙ h)
apart-has k n d c (Memᴰ.tail {x = x} m) a h =
    apart-has k n d c m (and_right (not (eqb d.frame_type x.frame_type)) _ (and_right (not (eqb d.rfci x.rfci)) _ a)) h

pub lookup_member : (k : Key) (n : ℕ) (c : Combination) {cs : List Combination} → Memᴰ c cs → all_good cs ≡ true → has k n c ≡ true
    → lookup k n cs ≡ ok c
lookup_member k n c (Memᴰ.head {x = x} {xs = cs} e) g h =
    ap (λ b. cond b (ok x) (lookup k n cs)) (and_from _ _ (ap (has k n) (sym e) ∙ h) (and_left _ _ g)) ∙ ap ok (sym e)
lookup_member k n c (Memᴰ.tail {x = x} {xs = cs} m) g h =
    let r = and_right (combination_good x) _ g in
    ap (λ b. cond (b && combination_good x) (ok x) (lookup k n cs)) (apart-has k n x c m (and_left _ _ r) h)
    ∙ lookup_member k n c m (and_right (unlike x cs) _ r) h
