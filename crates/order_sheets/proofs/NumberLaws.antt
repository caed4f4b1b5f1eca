-- A number's digits, one by one: the code's value is the number's, or 65,535 where that is larger, and both are 0 or both are not. Assumes nothing.
use mathlib.Core.Path.{◌≡◌, refl, sym, ap, ap₂, ◌∙◌}
use mathlib.Core.Bool.{Bool, true, false, ◌&&◌, cond}
use mathlib.Core.List.{List, [], ◌∷◌}
use mathlib.Core.Logic.{◌⊎◌, inl, inr, ⊎_elim}
use Prim.Native.Nat.{ℕ, suc, min, ◌+◌, ◌-◌, ◌*◌, ◌≤◌, ◌<◌}
use native.Mathlib.Omega.{arith}
use lib.Dec.{eqb, leb}
use lib.ListN.{length, get_or, take, drop, length-drop, drop_of_length-le}
use lib.Seq.{drop-cons, take_all}
use borrow.Author.Tests.{leb-true, le-leb, lt-leb, eq-eqb, ne_eqb}
use Rattle.std.specs.Prelude.{Some, None}
use Rattle.bits.proofs.Tests.{and_right}
use Rattle.definitions.specs.Outcome.{refused, ok, unless}
use Rattle.order_sheets_spec.specs.Sheets.{is_digit, digits, number}
use Rattle.order_sheets.specs.Answers.{capped, shown}

-- ---- digits

-- what is read from the place i on, with the value v so far, is what is read from the first place on
abbrev pub ReadSoFar : (end first : ℕ) → (s : List ℕ) → (v i : ℕ) → Type 0
ReadSoFar end first s v i = (n : ℕ) → capped n ≡ first → (m : ℕ) × (capped m ≡ v) × (digits end n s ≡ digits end m (drop i s))

digits-end : (end m c : ℕ) (t : List ℕ) → c ≡ end → digits end m (c ∷ t) ≡ ok (m, t)
unfolding digits
digits-end end m c t e = rw (eq-eqb c end e)

digits-stop : (end m c : ℕ) (t : List ℕ) → (c ≡ end → ⊥) → (is_digit c ≡ false) ⊎ (m ≡ 0) → digits end m (c ∷ t) ≡ refused 23
unfolding digits
digits-stop end m c t h (inl d) = rw (ne_eqb c end h, d)
digits-stop end m c t h (inr z) = go (is_digit c)
  where
    go : (b : Bool) → cond (eqb c end) (ok (m, t)) (unless 23 (b && leb 1 m) (digits end (10 * m + (c - 48)) t)) ≡ refused 23
    go true = rw (ne_eqb c end h, lt-leb 1 m (omega arith))
    go false = rw (ne_eqb c end h)

digits-more : (end m c : ℕ) (t : List ℕ) → (c ≡ end → ⊥) → is_digit c ≡ true → 1 ≤ m → digits end m (c ∷ t) ≡ digits end (10 * m + (c - 48)) t
unfolding digits
digits-more end m c t h d l = rw (ne_eqb c end h, d, le-leb 1 m l)

digits-none : (end m : ℕ) → digits end m [] ≡ refused 23
unfolding digits
digits-none end m = refl

module _ (end first : ℕ) (s : List ℕ) (v i : ℕ) (r : ReadSoFar end first s v i) where
  pub read-whole : length s ≤ i → (n : ℕ) → capped n ≡ first → None ≡ shown (digits end n s)
  read-whole l n e =
      let m = r n e in
      sym (ap shown (m.2 ∙ ap (digits end m.0) (drop_of_length-le s l) ∙ digits-none end m.0))

  module _ (l : i < length s) where
    next : (m : ℕ) → digits end m (drop i s) ≡ digits end m (get_or s i 0 ∷ drop (i + 1) s)
    next m = ap (digits end m) (drop-cons s i 0 l ∙ ap (λ j. get_or s i 0 ∷ drop j s) (let q : suc i ≡ i + 1 = omega arith in q))

    -- the text behind the number, as a part of a slice is said to be
    pub read-end : get_or s i 0 ≡ end → (n : ℕ) → capped n ≡ first → Some (v, take (length s - (i + 1)) (drop (i + 1) s)) ≡ shown (digits end n s)
    read-end e n f =
        let m = r n f in
        ap₂ (λ v t. Some (v, t)) (sym m.1) (take_all _ (drop (i + 1) s) (omega (arith, length-drop (i + 1) s)))
        ∙ sym (ap shown (m.2 ∙ next m.0 ∙ digits-end end m.0 _ _ e))

    pub read-stop : (get_or s i 0 ≡ end → ⊥) → (is_digit (get_or s i 0) ≡ false) ⊎ (v ≡ 0) → (n : ℕ) → capped n ≡ first → None ≡ shown (digits end n s)
    read-stop h d n f =
        let m = r n f in
        sym (ap shown (m.2 ∙ next m.0 ∙ digits-stop end m.0 _ _ h (⊎_elim inl (λ z. inr (omega (arith, m.1))) d)))

    pub read-more : (w : ℕ) → (get_or s i 0 ≡ end → ⊥) → is_digit (get_or s i 0) ≡ true → (v ≡ 0 → ⊥) → w ≡ min (min (v * 10) 65535 + (get_or s i 0 - 48)) 65535
        → ReadSoFar end first s w (i + 1)
    read-more w h d z e n f =
        let m = r n f in
        let some : 1 ≤ m.0 = omega (arith, m.1, z) in
        (10 * m.0 + (get_or s i 0 - 48), omega (arith, m.1), m.2 ∙ next m.0 ∙ digits-more end m.0 _ _ h d some)

-- ---- number

pub number-none : (end : ℕ) (s : List ℕ) → length s ≡ 0 → None ≡ shown (number end s)
unfolding number
number-none end [] e = refl
number-none end (c ∷ s) e = absurd (omega arith)

pub number-stop : (end c : ℕ) (s t : List ℕ) → s ≡ c ∷ t → is_digit c ≡ false → None ≡ shown (number end s)
unfolding number
number-stop end c s t e d = sym (ap (λ s. shown (number end s)) e ∙ rw d)

pub number-read : (end c : ℕ) (s t : List ℕ) → s ≡ c ∷ t → is_digit c ≡ true → shown (digits end (c - 48) t) ≡ shown (number end s)
unfolding number
number-read end c s t e d = sym (ap (λ s. shown (number end s)) e ∙ rw d)

-- the value of one digit
pub digit-capped : (c : ℕ) → is_digit c ≡ true → capped (c - 48) ≡ c - 48
digit-capped c d = omega (arith, leb-true c 57 (and_right (leb 48 c) _ d))
