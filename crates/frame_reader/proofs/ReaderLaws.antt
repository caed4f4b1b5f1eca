-- Each refusal follows from the tests made before it, and a plain frame is what the reader shows. Assumes nothing.
use mathlib.Core.Path.{◌≡◌, refl, sym, ap, ◌∙◌}
use mathlib.Core.Bool.{Bool, true, false, not, ◌&&◌, ◌||◌, cond}
use mathlib.Core.List.{List}
use Prim.Native.Nat.{ℕ, ◌<◌, ◌≤◌}
use native.Mathlib.Omega.{arith}
use lib.Dec.{eqb, leb}
use lib.ListN.{length, drop}
use borrow.Author.Tests.{le-leb, lt-leb, eqb-true}
use Rattle.bits.specs.Bits.{num, bits}
use Rattle.definitions.specs.Outcome.{refused, ok}
use Rattle.definitions.specs.Frames.{Format, known, octets, type_in, quality_in, core_in, frame_in, spare_clear, fields_good, crc_good}
use Rattle.definitions.specs.Reading.{read_with}
use Rattle.frame.specs.Answers.{format_of, frame_with}
use Rattle.frame.specs.declared.FrameHeader.{FrameHeader}
use Rattle.frame_tests.specs.declared.FrameOctets.{FrameOctets}
use Rattle.definitions.proofs.Tables.{sized}
use Rattle.definitions.proofs.Frames.{type-frame, frame_path}
use Rattle.frame_reader.specs.Buffer.{Plain}
use Rattle.frame_tests.proofs.TestLaws.{no_crc}

-- `header_in`: the type that it gives is the type that was read
pub header-same : (f : Format) (bs : List Bool) (h : FrameHeader) (t : ℕ) → t ≡ type_in f bs → frame_with h (core_in f t bs) ≡ frame_in f bs
    → (h.frame_type ≡ t) × (frame_with h (core_in f h.frame_type bs) ≡ frame_in f bs)
header-same f bs h t et e =
    let same : h.frame_type ≡ t = ap (λ x. x.type) e ∙ type-frame f bs ∙ sym et in
    (same, ap (λ u. frame_with h (core_in f u bs)) same ∙ e)

-- ---- the chain

-- the octets hold a frame of a known type t, of n octets
pub record Whole (f : Format) (s : List ℕ) (t n : ℕ) : Type 0 where
  pub some : 0 < length s
  pub type_is : t ≡ type_in f (bits s)
  pub type_known : known t ≡ true
  pub size_is : n ≡ octets f t
  pub enough : n ≤ length s

-- what the type of `x` says
pub whole-there : (x : FrameOctets) → Whole (format_of x.format) x.s.now x.frame_type x.size
whole-there x = record {
  some = omega (arith, x.size_is, x.enough, (sized (format_of x.format) x.frame_type x.type_known).some-octet);
  type_is = x.type_is;
  type_known = x.type_known;
  size_is = x.size_is;
  enough = x.enough;
}

module _ (single : Bool) (f : Format) (s : List ℕ) where
  pub refuses_1 : length s ≡ 0 → refused 1 ≡ read_with single f s
  unfolding read_with
  refuses_1 e = rw (lt-leb 1 (length s) (omega arith))

  pub refuses_2 : (t : ℕ) → 0 < length s → t ≡ type_in f (bits s) → known t ≡ false → refused 2 ≡ read_with single f s
  unfolding read_with
  refuses_2 t h et k = rw (le-leb 1 (length s) h, ← et, k)

  pub refuses_3 : (t n : ℕ) → 0 < length s → t ≡ type_in f (bits s) → known t ≡ true → n ≡ octets f t → length s < n → refused 3 ≡ read_with single f s
  unfolding read_with
  refuses_3 t n h et k en l =
      rw (le-leb 1 (length s) h, ← et, k, ← en, lt-leb n (length s) l)

  module _ (t n : ℕ) (w : Whole f s t n) where
    pub refuses_4 : (not single || leb (length s) n) ≡ false → refused 4 ≡ read_with single f s
    unfolding read_with
    refuses_4 e =
        rw (le-leb 1 (length s) w.some, ← w.type_is, w.type_known, ← w.size_is, le-leb n (length s) w.enough, e)

    module _ (ending : (not single || leb (length s) n) ≡ true) where
      pub refuses_5 : spare_clear f (bits s) ≡ false → refused 5 ≡ read_with single f s
      unfolding read_with
      refuses_5 e =
          rw (le-leb 1 (length s) w.some, ← w.type_is, w.type_known, ← w.size_is, le-leb n (length s) w.enough, ending, e)

      pub refuses_6 : spare_clear f (bits s) ≡ true → fields_good f (frame_in f (bits s)) ≡ false → refused 6 ≡ read_with single f s
      unfolding read_with
      refuses_6 e₅ e =
          rw (le-leb 1 (length s) w.some, ← w.type_is, w.type_known, ← w.size_is, le-leb n (length s) w.enough, ending, e₅, e)

      pub refuses_7 : spare_clear f (bits s) ≡ true → fields_good f (frame_in f (bits s)) ≡ true → crc_good f (bits s) ≡ false
          → refused 7 ≡ read_with single f s
      unfolding read_with
      refuses_7 e₅ e₆ e =
          rw (le-leb 1 (length s) w.some, ← w.type_is, w.type_known, ← w.size_is, le-leb n (length s) w.enough, ending, e₅, e₆, e)

      pub reads : spare_clear f (bits s) ≡ true → fields_good f (frame_in f (bits s)) ≡ true → crc_good f (bits s) ≡ true
          → ok (frame_in f (bits s), n) ≡ read_with single f s
      unfolding read_with
      reads e₅ e₆ e₇ =
          rw (le-leb 1 (length s) w.some, ← w.type_is, w.type_known, ← w.size_is, le-leb n (length s) w.enough, ending, e₅, e₆, e₇)

-- ---- a plain frame

module _ (f : Format) (s : List ℕ) (n : ℕ) (p : Plain f s n) where
  plain_frame : (h : FrameHeader) → h.frame_type ≡ type_in f (bits s) → h.quality ≡ quality_in f (bits s) → h.indication ≡ 0 → h.request ≡ 0
      → frame_with h (core_in f h.frame_type (bits s)) ≡ frame_in f (bits s)
  unfolding frame_in
  plain_frame h t q i r =
      let c = p.no_modes in
      frame_path _ _ t q (i ∙ sym (ap (λ b. cond b (num 4 (drop 8 (bits s))) 0) c)) (r ∙ sym (ap (λ b. cond b (num 4 (drop 12 (bits s))) 0) c))
      (ap (λ u. core_in f u (bits s)) t)

  plain_fields : fields_good f (frame_in f (bits s)) ≡ true
  unfolding fields_good frame_in
  plain_fields = rw p.no_modes (go (eqb (type_in f (bits s)) 9) refl)
    where
      m : ℕ
      m = num 4 (drop 36 (core_in f (type_in f (bits s)) (bits s)))

      go : (b : Bool) → eqb (type_in f (bits s)) 9 ≡ b → ((not b || leb (num 4 (drop 36 (core_in f (type_in f (bits s)) (bits s)))) 8) && true) ≡ true
      go true e = rw (le-leb _ 8 (p.sid (eqb-true _ _ e)))
      go false e = refl

  plain_crc : crc_good f (bits s) ≡ true
  plain_crc = sym (no_crc f s (type_in f (bits s)) refl p.no_modes)

  -- it is what the reader shows
  pub plain_reads : (h : FrameHeader) → h.frame_type ≡ type_in f (bits s) → h.quality ≡ quality_in f (bits s) → h.indication ≡ 0 → h.request ≡ 0
      → ok (frame_with h (core_in f h.frame_type (bits s)), n) ≡ read_with false f s
  plain_reads h t q i r =
      ap (λ x. ok (x, n)) (plain_frame h t q i r)
      ∙ reads false f s (type_in f (bits s)) n
      (record { some = p.some; type_is = refl; type_known = p.type_known; size_is = p.size; enough = p.enough }) refl
      p.spare plain_fields plain_crc
