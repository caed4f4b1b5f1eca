-- A wrong builder is asked for a SID frame, and a wrong layout for two frames without data. Assumes nothing.
use mathlib.Core.Path.{◌≡◌, refl, sym, ap, ◌∙◌}
use mathlib.Core.Bool.{true≢false, false}
use mathlib.Core.List.{[]}
use Prim.Native.Nat.{ℕ, ◌≤◌}
use native.Mathlib.Nat.{le_refl}
use native.Mathlib.Omega.{arith}
use lib.ListN.{length, get_or, replicate}
use borrow.Author.Tests.{leb-false}
use Rattle.bits.specs.Bits.{odd, digits, num, packs, pack}
use Rattle.definitions.specs.Frames.{if2, Frame, frame_by, known, core_bits, header, layout, fields_good}
use Rattle.definitions.specs.Claims.{Valid}
use Rattle.definitions.specs.Refusals.{refusal_order, BuildFault}
use Rattle.definitions.specs.WrongBuilders.{with_first_inverted, WrongLayouts, WrongBuilders}
use Rattle.definitions.proofs.Claims.{frame_again}
use Rattle.definitions.proofs.Outcome.{first-holds}
use Rattle.definitions.proofs.Refusals.{reserved-known, room-refused}

no_data : ℕ → Frame
no_data q = frame_by 15 q 0 0 []

no_data-valid : (q : ℕ) → q ≤ 1 → Valid if2 (no_data q)
unfolding no_data known core_bits fields_good
no_data-valid q h = record { type_known = refl; quality_bit = h; core_length = refl; fields_are_good = refl }

sid : Frame
sid = frame_by 9 1 0 0 (replicate 40 false)

sid-valid : Valid if2 sid
unfolding sid known core_bits fields_good num
sid-valid = record { type_known = refl; quality_bit = le_refl 1; core_length = refl; fields_are_good = refl }

pub wrong_layouts : WrongLayouts
unfolding no_data
wrong_layouts = record {
  without_quality = λ lay same claim.
      let e : no_data 0 ≡ no_data 1 =
      claim.injective if2 (no_data 0) (no_data 1) (no_data-valid 0 (omega arith)) (no_data-valid 1 (omega arith)) (same if2 15 0 1 0 0 []) in
      let z : ◌≡◌ {A = ℕ} 0 1 = ap (λ (x : Frame). x.quality) e in
      omega arith;
}

-- its first octet is 0x98, and with d(0) inverted 0x9C
inverted-differs : layout if2 sid ≡ layout if2 (with_first_inverted sid) → ⊥
unfolding sid layout header odd digits num packs pack
inverted-differs e = let z : ◌≡◌ {A = ℕ} 0x98 0x9C = ap (λ l. get_or l 0 0) e in omega arith

pub wrong_builders : WrongBuilders
wrong_builders = record {
  declines = λ build none claim.
      let n = length (layout if2 sid) in
      none if2 sid.type sid.quality sid.indication sid.request (pack sid.core) n (layout if2 sid) (claim.complete if2 sid n sid-valid (le_refl n));
  inverts = λ build writes claim.
      let n = length (layout if2 sid) in
      inverted-differs
      (writes if2 sid.type sid.quality sid.indication sid.request (pack sid.core) n (layout if2 sid) (claim.complete if2 sid n sid-valid (le_refl n))
      ∙ ap (λ x. layout if2 (with_first_inverted x)) (frame_again if2 sid sid-valid));
  writes_reserved = λ build f t q i r c room w o z h claim.
      true≢false (sym (claim.sound f t q i r c room w o h).0.type_known ∙ (reserved-known t (omega (arith, z.1))).1 z);
  buffer_fits = λ build f t q i r c room o l h claim.
      omega (
        arith,
        l,
        leb-false _ _ ((room-refused f t q i r c room).1
            (first-holds (BuildFault f t q i r c room) refusal_order 10 ((claim.exactly f t q i r c room 10 o).0 h))),
      );
}
