-- The first two lines: a mode below 65,535 is the text's own, and so are the bits. Assumes nothing.
use mathlib.Core.Path.{◌≡◌, sym, ap, ◌∙◌}
use mathlib.Core.Bool.{◌&&◌}
use mathlib.Core.List.{List}
use mathlib.Core.Logic.{◌⊎◌, inl, inr}
use Prim.Native.Nat.{ℕ, ◌≤◌, ◌<◌}
use native.Mathlib.Omega.{arith}
use lib.Dec.{eqb, leb, ltb}
use borrow.Author.Tests.{lt-ltb, le-leb, lt-leb, le-ltb, eq-eqb, ne_eqb}
use Rattle.std.specs.Prelude.{Some, None}
use Rattle.definitions.specs.Outcome.{Outcome, ok, unless, and_then}
use Rattle.definitions.specs.Frames.{core_bits}
use Rattle.order_sheets_spec.specs.Sheets.{«mode=», «bits=», line_feed, field, head}
use Rattle.order_sheets.specs.Answers.{capped, shown}
use Rattle.order_sheets.proofs.FieldLaws.{none-shown, some-shown}

module _ (s : List ℕ) where
  abbrev bits_of : ℕ → ℕ × List ℕ → Outcome (ℕ × List ℕ)
  bits_of m k = unless 23 (eqb k.0 (core_bits m)) (ok (m, k.1))

  abbrev mode_of : ℕ × List ℕ → Outcome (ℕ × List ℕ)
  mode_of m = unless 23 (ltb 4 m.0 && leb m.0 8) (and_then (field «bits=» line_feed m.1) (bits_of m.0))

  pub no-mode : None ≡ shown (field «mode=» line_feed s) → None ≡ shown (head s)
  unfolding head
  no-mode e = let f = none-shown _ e in sym (ap (λ o. shown (and_then o mode_of)) f.1)

  module _ (m : ℕ) (t : List ℕ) (e : Some (m, t) ≡ shown (field «mode=» line_feed s)) where
    pub mode-out : (m ≤ 4) ⊎ (8 < m) → None ≡ shown (head s)
    unfolding head
    mode-out (inl h) = let f = some-shown _ m t e in sym (ap (λ o. shown (and_then o mode_of)) f.1 ∙ rw (le-ltb 4 f.0 (omega (arith, f.2))))
    mode-out (inr h) =
        let f = some-shown _ m t e in
        sym (ap (λ o. shown (and_then o mode_of)) f.1 ∙ rw (lt-ltb 4 f.0 (omega (arith, f.2)), lt-leb f.0 8 (omega (arith, f.2))))

    module _ (low : 4 < m) (high : m ≤ 8) where
      second : shown (head s) ≡ shown (and_then (field «bits=» line_feed t) (bits_of m))
      unfolding head
      second =
          let f = some-shown _ m t e in
          let q : f.0 ≡ m = omega (arith, f.2) in
          ap (λ o. shown (and_then o mode_of)) f.1 ∙ rw (q, lt-ltb 4 m low, le-leb m 8 high)

      pub no-bits : None ≡ shown (field «bits=» line_feed t) → None ≡ shown (head s)
      no-bits g = let f = none-shown _ g in sym (second ∙ ap (λ o. shown (and_then o (bits_of m))) f.1)

      module _ (b : ℕ) (u : List ℕ) (g : Some (b, u) ≡ shown (field «bits=» line_feed t)) (few : core_bits m ≤ 477) where
        pub other-bits : (b ≡ core_bits m → ⊥) → None ≡ shown (head s)
        other-bits h =
            let f = some-shown _ b u g in
            let n : f.0 ≡ core_bits m → ⊥ = λ q. h (omega (arith, f.2)) in
            sym (second ∙ ap (λ o. shown (and_then o (bits_of m))) f.1 ∙ rw (ne_eqb f.0 (core_bits m) n))

        pub head-read : b ≡ core_bits m → Some (m, u) ≡ shown (head s)
        head-read h =
            let f = some-shown _ b u g in
            let n : f.0 ≡ core_bits m = omega (arith, f.2) in
            let c : capped m ≡ m = omega arith in
            ap (λ m. Some (m, u)) (sym c) ∙ sym (second ∙ ap (λ o. shown (and_then o (bits_of m))) f.1 ∙ rw (eq-eqb f.0 (core_bits m) n))
