-- Each refusal of a building call follows from the tests made before it, and what is written behind them is the definition's. Assumes nothing.
use mathlib.Core.Path.{◌≡◌, sym, ap, ◌∙◌}
use mathlib.Core.Bool.{true, false}
use mathlib.Core.List.{List, ◌++◌}
use Prim.Native.Nat.{ℕ, ◌-◌, ◌*◌, ◌<◌, ◌≤◌}
use native.Mathlib.Omega.{arith}
use lib.ListN.{length, take, drop}
use lib.Seq.{length-take-le}
use borrow.Author.Tests.{le-leb, lt-leb, eq-eqb, ne_eqb}
use Rattle.bits.specs.Bits.{num, clear, bits, octets_for}
use Rattle.bits.proofs.BitLaws.{length-bits, num-within}
use Rattle.definitions.specs.Outcome.{refused, ok, and_then}
use Rattle.definitions.specs.Frames.{Format, Frame, known, core_bits, octets, core_octets, layout, fields_good}
use Rattle.definitions.specs.Reading.{buffer_core, core_fill_clear, frame_of, build_check, build_frame, counted, output_after}
use Rattle.definitions.proofs.Tables.{core-most}
use Rattle.definitions.proofs.Frames.{size-layout, fields_are_good}
use Rattle.definitions.proofs.Claims.{check_known}
use Rattle.frame.specs.Answers.{frame_with}
use Rattle.frame.specs.declared.FrameHeader.{FrameHeader}
use Rattle.std.specs.Prelude.{Ok}
use Rattle.frame.proofs.TableLaws.{sid-core}
use Rattle.frame_writer.specs.Writing.{run_frame, Writable}
use Rattle.frame_builder.specs.Output.{IntoOutput}

-- ---- the tests of a building call

-- `core_fill_clear`
pub fill_none : (c : List ℕ) (k : ℕ) → length c ≡ octets_for k → length c ≡ 0 → true ≡ clear (8 * length c - k) (drop k (bits c))
unfolding num
fill_none c k l z =
    let none : 8 * length c - k ≡ 0 = omega arith in
    sym (ap (λ n. clear n (drop k (bits c))) none)

-- `core_fields_good`: the SID mode lies within the core
pub mode-within : (c : List ℕ) (t v : ℕ) → t ≡ 9 → v ≡ num 4 (drop 36 (bits c)) → v ≡ num 4 (drop 36 (buffer_core c t))
mode-within c t v et ev =
    ev ∙ sym (num-within 4 36 40 (bits c) (omega arith)) ∙ ap (λ k. num 4 (drop 36 (take k (bits c)))) (sym (ap core_bits et ∙ sid-core))

-- the numbers are in their ranges, the type is known, and the core has its octets
pub record Measured (t q : ℕ) (c : List ℕ) : Type 0 where
  pub type-most : t ≤ 15
  pub quality-most : q ≤ 1
  pub type_known : known t ≡ true
  pub core-size : length c ≡ core_octets t

module _ (f : Format) (t q i r : ℕ) (c : List ℕ) (room : ℕ) where
  pub type_reserved : t ≤ 15 → q ≤ 1 → known t ≡ false → refused 2 ≡ build_check f t q i r c room
  unfolding build_check
  type_reserved ht hq k = rw (le-leb t 15 ht, le-leb q 1 hq, k)

  pub core-length_wrong : t ≤ 15 → q ≤ 1 → known t ≡ true → (length c ≡ core_octets t → ⊥) → refused 11 ≡ build_check f t q i r c room
  unfolding build_check
  core-length_wrong ht hq kt w = rw (le-leb t 15 ht, le-leb q 1 hq, kt, ne_eqb (length c) (core_octets t) w)

  module _ (m : Measured t q c) where
    pub fill_wrong : core_fill_clear t c ≡ false → refused 5 ≡ build_check f t q i r c room
    unfolding build_check
    fill_wrong w =
        rw (le-leb t 15 m.type-most, le-leb q 1 m.quality-most, m.type_known, eq-eqb (length c) (core_octets t) m.core-size, w)

    module _ (fill : core_fill_clear t c ≡ true) where
      pub fields_wrong : fields_good f (frame_of t q i r c) ≡ false → refused 6 ≡ build_check f t q i r c room
      unfolding build_check
      fields_wrong w =
          rw (le-leb t 15 m.type-most, le-leb q 1 m.quality-most, m.type_known, eq-eqb (length c) (core_octets t) m.core-size, fill, w)

      module _ (g : fields_good f (frame_of t q i r c) ≡ true) (n : ℕ) (en : n ≡ octets f t) where
        pub output_short : room < n → refused 10 ≡ build_check f t q i r c room
        unfolding build_check
        output_short h =
            rw (le-leb t 15 m.type-most, le-leb q 1 m.quality-most, m.type_known, eq-eqb (length c) (core_octets t) m.core-size, fill, g, ← en, lt-leb n room h)

        pub builds : n ≤ room → ok (frame_of t q i r c, n) ≡ build_check f t q i r c room
        unfolding build_check
        builds h =
            rw (le-leb t 15 m.type-most, le-leb q 1 m.quality-most, m.type_known, eq-eqb (length c) (core_octets t) m.core-size, fill, g, ← en, le-leb n room h)

-- modes that pass refusal 6's test fit an octet
pub modes_fit : (f : Format) (x : Frame) → fields_good f x ≡ true → (x.indication ≤ 8) × (x.request ≤ 8)
modes_fit f x h = let g = fields_are_good f x h in (g.indication, g.request)

-- ---- `build`

module _ (f : Format) (t q i r : ℕ) (c d₀ : List ℕ) where
  module _ (h : FrameHeader) (n : ℕ) (ea : ok (frame_with h (buffer_core c h.frame_type), n) ≡ build_check f t q i r c (length d₀)) where
    x : Frame
    x = frame_with h (buffer_core c h.frame_type)

    check_is : build_check f t q i r c (length d₀) ≡ ok (x, n)
    unfolding x
    check_is = sym ea

    same : ◌≡◌ {A = Frame × ℕ} (frame_of t q i r c, octets f t) (x, n)
    same = (check_known f t q i r c (length d₀) (x, n) check_is).shown

    same-type : t ≡ h.frame_type
    unfolding x
    same-type = ap (λ (y : Frame × ℕ). y.0.type) same

    pub writable : Writable f h c 0 d₀
    unfolding x
    writable =
        let p = check_known f t q i r c (length d₀) (x, n) check_is in
        let g = modes_fit f (frame_of t q i r c) p.fields in
        let eq : q ≡ h.quality = ap (λ (y : Frame × ℕ). y.0.quality) same in
        let ei : i ≡ h.indication = ap (λ (y : Frame × ℕ). y.0.indication) same in
        let er : r ≡ h.request = ap (λ (y : Frame × ℕ). y.0.request) same in
        let ek = ap core_bits same-type in
        let eo = ap (octets f) same-type in
        let most = core-most t p.type_known in
        record {
          type_known = ap known (sym same-type) ∙ p.type_known;
          quality_bit = omega (arith, p.quality_bit);
          indication_bits = omega arith;
          request_bits = omega arith;
          core_there = omega (arith, p.core-size);
          core_near = omega arith;
          room = omega (arith, p.space);
        }

    pub built_frame : (d : List ℕ) → d ≡ layout f (run_frame h c 0) ++ drop (octets f h.frame_type) d₀
        → IntoOutput (build_frame f t q i r c (length d₀)) d₀ d (Ok n)
    unfolding x
    built_frame d e =
        let p = check_known f t q i r c (length d₀) (x, n) check_is in
        let o : build_frame f t q i r c (length d₀) ≡ ok (layout f (run_frame h c 0)) = ap (λ o. and_then o (λ y. ok (layout f y.0))) check_is in
        let kt : known h.frame_type ≡ true = ap known (sym same-type) ∙ p.type_known in
        let lc = length-take-le (core_bits h.frame_type) (bits c) (omega (arith, writable.core_there, length-bits c)) in
        let l : length (layout f (run_frame h c 0)) ≡ octets f h.frame_type = size-layout f (run_frame h c 0) kt lc in
        let en : n ≡ octets f h.frame_type = sym (ap (λ (y : Frame × ℕ). y.1) same) ∙ ap (octets f) same-type in
        record {
          answer = ap ok (en ∙ sym l) ∙ sym (ap counted o);
          buffer = e ∙ ap (λ m. layout f (run_frame h c 0) ++ drop m d₀) (sym l) ∙ sym (ap (λ o. output_after o d₀) o);
        }
