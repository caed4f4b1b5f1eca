-- A wrong reader is asked about octets on which it differs. Assumes nothing.
use mathlib.Core.Path.{◌≡◌, refl, sym, ap, ◌∙◌}
use mathlib.Core.Bool.{Bool, true, false, xor, ◌&&◌}
use mathlib.Core.List.{List, [], ◌∷◌, ◌++◌}
use Prim.Native.Nat.{ℕ, zero, suc, ◌≤◌}
use native.Mathlib.Nat.{le_refl}
use native.Mathlib.Omega.{arith}
use lib.Dec.{leb}
use lib.ListN.{length}
use lib.Seq.{take_all, take-nil}
use borrow.Author.Tests.{leb-true, leb-false}
use Rattle.bits.specs.Bits.{odd, digits, num, bits, Octets}
use Rattle.bits.proofs.BitLaws.{pack_octets}
use Rattle.bits.proofs.Tests.{and_left, and_right}
use Rattle.parity.specs.Crc.{crc}
use Rattle.definitions.specs.Outcome.{refused, ok, unless}
use Rattle.definitions.specs.Frames.{Format, if1, if2, Frame, known, core_bits, class_a, octets, core_octets, header, layout, type_in, frame_in, spare_clear, fields_good, crc_good}
use Rattle.definitions.specs.Reading.{read_with, read_frame, format_numbered}
use Rattle.definitions.specs.Claims.{Valid, Begins, Reader, FrameCall}
use Rattle.definitions.specs.Refusals.{refusal_order, FirstOf, FrameFault, RefusesFrames, CallFault, RefusesCalls}
use Rattle.definitions.specs.WrongReaders.{WrongReaders, WrongSingleReaders, crc_first, WrongRefusals, WrongCalls}
use Rattle.definitions.proofs.Tables.{sized}
use Rattle.definitions.proofs.Frames.{length-layout, never}
use Rattle.definitions.proofs.Claims.{reads_frames}
use Rattle.definitions.proofs.Outcome.{same_number, first-holds}
use Rattle.definitions.proofs.Refusals.{room-fails, refuses-frames}

-- a frame that every format holds: type 15, quality 1, no core
empty : Frame
empty = record { type = 15; quality = 1; indication = 0; request = 0; core = [] }

empty-valid : Valid if2 empty
unfolding empty known core_bits fields_good
empty-valid = record { type_known = refl; quality_bit = le_refl 1; core_length = refl; fields_are_good = refl }

octets-layout : (f : Format) (x : Frame) → Octets (layout f x)
unfolding layout
octets-layout f x = pack_octets (header f x ++ x.core)

pub wrong_readers : WrongReaders
wrong_readers = record {
  declines = λ read none claim.
      let w = layout if2 empty in
      let b : Begins if2 w empty (length w) = record { valid = empty-valid; size = refl; laid = take_all (length w) w (le_refl (length w)) } in
      none if2 w (empty, length w) ((claim.exactly if2 w empty (length w) (octets-layout if2 empty)).1 b);
  shows_one = λ read x n shows claim.
      let b = (claim.exactly if2 [] x n (λ i. omega arith)).0 (shows if2 []) in
      let v = b.valid in
      let l : length (layout if2 x) ≡ 0 = ap length (sym b.laid ∙ take-nil n) in
      omega (arith, length-layout if2 x v, (sized if2 x.type v.type_known).some-octet);
}

pub wrong_single_readers : WrongSingleReaders
wrong_single_readers = record {
  declines = λ read none claim.
      let w = layout if2 empty in
      none if2 w (empty, length w) ((claim.exactly if2 w empty (length w) (octets-layout if2 empty)).1 (empty-valid, refl, refl));
  accepts_more = λ read f s x n o l shows claim. omega (arith, l, ((claim.exactly f s x n o).0 shows).2);
}

-- ---- refusals

-- the tests of 5, 6 and 7 in either order let the same pass
either_order : {A : Type 0} (b₁ b₂ b₃ b₅ b₆ b₇ : Bool) (a y : A)
    → (unless 1 b₁ (unless 2 b₂ (unless 3 b₃ (unless 7 b₇ (unless 5 b₅ (unless 6 b₆ (ok a)))))) ≡ ok y
    → unless 1 b₁ (unless 2 b₂ (unless 3 b₃ (unless 5 b₅ (unless 6 b₆ (unless 7 b₇ (ok a)))))) ≡ ok y)
    × (unless 1 b₁ (unless 2 b₂ (unless 3 b₃ (unless 5 b₅ (unless 6 b₆ (unless 7 b₇ (ok a)))))) ≡ ok y
    → unless 1 b₁ (unless 2 b₂ (unless 3 b₃ (unless 7 b₇ (unless 5 b₅ (unless 6 b₆ (ok a)))))) ≡ ok y)
either_order false b₂ b₃ b₅ b₆ b₇ a y = ((λ h. h), (λ h. h))
either_order true false b₃ b₅ b₆ b₇ a y = ((λ h. h), (λ h. h))
either_order true true false b₅ b₆ b₇ a y = ((λ h. h), (λ h. h))
either_order true true true true true b₇ a y = ((λ h. h), (λ h. h))
either_order true true true false b₆ true a y = ((λ h. h), (λ h. h))
either_order true true true false b₆ false a y = (never 7 y, never 5 y)
either_order true true true true false true a y = ((λ h. h), (λ h. h))
either_order true true true true false false a y = (never 7 y, never 6 y)

shows_same : (f : Format) (s : List ℕ) (y : Frame × ℕ) → (crc_first f s ≡ ok y → read_frame f s ≡ ok y) × (read_frame f s ≡ ok y → crc_first f s ≡ ok y)
unfolding crc_first read_with
shows_same f s y =
    let bs = bits s in
    let t = type_in f bs in
    either_order (leb 1 (length s)) (known t) (leb (octets f t) (length s)) (spare_clear f bs) (fields_good f (frame_in f bs)) (crc_good f bs)
    (frame_in f bs, octets f t) y

-- IF1's SID frame of document 01's bench case, with a spare bit 1 and another CRC
abbrev two_faults : List ℕ
two_faults = 0x99 ∷ 0x02 ∷ 0x00 ∷ 0x00 ∷ 0x00 ∷ 0x00 ∷ 0x00 ∷ 0x13 ∷ []

abbrev below_256 : List ℕ → Bool
below_256 [] = true
below_256 (x ∷ s) = leb (suc x) 256 && below_256 s

octets-below : (s : List ℕ) → below_256 s ≡ true → Octets s
octets-below [] h i = omega arith
octets-below (x ∷ s) h zero = leb-true (suc x) 256 (and_left _ _ h)
octets-below (x ∷ s) h (suc i) = octets-below s (and_right (leb (suc x) 256) _ h) i

two_faults-read : read_frame if1 two_faults ≡ refused 5
unfolding read_with bits digits odd num known octets spare_clear
two_faults-read = refl

two_faults-crc : crc_first if1 two_faults ≡ refused 7
unfolding crc_first bits digits odd num known octets class_a core_bits crc_good crc xor
two_faults-crc = refl

seven : (single : Bool) (read : Reader) (f : Format) (s : List ℕ) → Octets s → FirstOf (FrameFault single f s) refusal_order 5
    → read f s ≡ refused 7 → RefusesFrames single read → ⊥
seven single read f s o x h claim = let e : ◌≡◌ {A = ℕ} 5 7 = same_number {A = Frame × ℕ} 5 7 (sym ((claim.exactly f s 5 o).1 x) ∙ h) in omega arith

pub wrong_refusals : WrongRefusals
wrong_refusals = record {
  seven_for_five = seven;
  crc_first_shows = record {
    exactly = λ f s x n o.
        let r = reads_frames.exactly f s x n o in
        let z = shows_same f s (x, n) in
        ((λ h. r.0 (z.0 h)), (λ b. z.1 (r.1 b)));
  };
  crc_first_refuses =
      let o = octets-below two_faults refl in
      seven false crc_first if1 two_faults o (((refuses-frames false).exactly if1 two_faults 5 o).0 two_faults-read) two_faults-crc;
}

-- ---- calls

no-core-octets : core_octets empty.type ≡ 0
unfolding empty core_bits
no-core-octets = refl

no-core : core_octets empty.type ≤ 0
no-core = omega (arith, no-core-octets)

buffer : (read : FrameCall) (format : ℕ) (f : Format) (s : List ℕ) (room : ℕ) → Octets s → format_numbered format ≡ ok f
    → core_octets (type_in f (bits s)) ≤ room → read format s room ≡ refused 10 → RefusesCalls read → ⊥
buffer read format f s room o e l h claim =
    omega (arith, l, leb-false _ _ ((room-fails format s room f e).1 (first-holds (CallFault format s room) refusal_order 10 ((claim.exactly format s room 10 o).0 h))))

pub wrong_calls : WrongCalls
wrong_calls = record {
  declines = λ read none claim.
      none 2 (layout if2 empty) 0 (empty, 0) ((claim.exactly 2 (layout if2 empty) 0 empty 0 (octets-layout if2 empty)).1
      (if2, refl, empty-valid, refl, no-core, no-core-octets));
  buffer_fits = buffer;
}
