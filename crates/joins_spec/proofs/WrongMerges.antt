-- A wrong merge makes a recording whose frames are not the two recordings' slot by in_slot, or refuses by a number whose condition does not hold or is
-- not the first that does. No stored frame begins with the first octet of a file header, which has a spare bit set. Assumes nothing.
use mathlib.Core.Path.{◌≡◌, refl, sym, ap, ◌∙◌, subst}
use mathlib.Core.Bool.{Bool, true, false, true≢false}
use mathlib.Core.Logic.{◌≢◌}
use mathlib.Core.List.{List, [], ◌∷◌, ◌++◌}
use Prim.Native.Nat.{ℕ, ◌≤◌}
use native.Mathlib.Omega.{arith}
use lib.Dec.{leb}
use lib.ListN.{length, drop}
use borrow.Author.Tests.{leb-true, leb-false}
use Rattle.bits.specs.Bits.{Octets, odd, digits, num, bits}
use Rattle.definitions.specs.Frames.{Format, if2, storage, Frame, spare_clear}
use Rattle.definitions.specs.Reading.{format_number}
use Rattle.definitions.specs.Claims.{Valid}
use Rattle.definitions.proofs.Frames.{read-layout, judged}
use Rattle.recordings.specs.Recordings.{limit, file_header, read_recording, layouts, write_recording}
use Rattle.recordings.specs.Claims.{Every, first}
use Rattle.recordings.specs.ConversionClaims.{ValidRecording, WritingRefusal, too_long}
use Rattle.recordings.proofs.Trips.{same-number}
use Rattle.joins_spec.specs.Joined.{Joined, refused_in, made}
use Rattle.joins_spec.specs.Claims.{JoinCall, first_refused, writing}
use Rattle.joins_spec.specs.Merging.{Slots, Merges}
use Rattle.joins_spec.specs.WrongMerges.{BothValid, Gives, WrongMerges}
use Rattle.joins_spec.proofs.Joining.{not_made, whole, made_of}
use Rattle.joins_spec.proofs.Merges.{slots_into}

-- ---- answers that differ

one_refusal : {o : Joined (ℕ × List ℕ)} {i n k at i' n' k' at' : ℕ} → o ≡ refused_in i n k at → o ≡ refused_in i' n' k' at' → (i ≡ i') × (n ≡ n')
one_refusal e g = (cc, cc)

same-frame : (x y : Frame) → x ∷ [] ≡ y ∷ [] → x ≡ y
same-frame x y e = cc

-- ---- no stored frame begins as the file header

header_octet : (s : List ℕ) → spare_clear storage (bits (0x23 ∷ s)) ≡ false
unfolding spare_clear bits digits odd num
header_octet s = refl

no_header : (xs : List Frame) (s : List ℕ) → Every (Valid storage) xs → layouts storage xs ≢ 0x23 ∷ s
no_header [] s v e = omega (arith, ap length e)
no_header (x ∷ xs) s (first v vs) e =
    let j = judged false storage (layouts storage (x ∷ xs)) (x, _) (read-layout false storage x (layouts storage xs) v refl) in
    true≢false (sym j.spare ∙ ap (λ s. spare_clear storage (bits s)) e ∙ header_octet s)

-- ---- a call that merges

module _ (call : JoinCall) (m : Merges call) where
  gives-slots : (xs ys zs : List Frame) → Gives call xs ys zs → Slots xs ys zs
  gives-slots xs ys zs g =
      let p = g.of in
      made_of Slots call m.joins g.f g.a g.b g.room g.k g.w p.octets_first p.octets_second g.answer xs ys zs p.first p.second g.valid

  writes_header : (a b : List ℕ) (zs : List Frame) (room k : ℕ) → Octets a → Octets b
      → call (format_number storage) a b room ≡ made (k, file_header storage ++ write_recording storage zs) → ⊥
  unfolding write_recording
  writes_header a b zs room k oa ob h =
      let w = file_header storage ++ write_recording storage zs in
      let j = (m.joins.exactly (format_number storage) a b room k w oa ob).0 h in
      let v = subst (λ f. ValidRecording f w j.zs) (sym (same-number storage j.f j.known)) j.valid in
      let r = whole storage w j.zs j.octets v in
      no_header j.zs (drop 1 (write_recording storage zs)) r.valid (sym (ap (drop 9) r.laid))

  module _ (f : Format) (a b : List ℕ) (xs ys zs : List Frame) (room : ℕ) (p : BothValid f a b xs ys) (s : Slots xs ys zs) where
    refuses-writing : (n k at : ℕ) → WritingRefusal (length (write_recording f zs)) room n k at → call (format_number f) a b room ≡ refused_in 0 n k at
    refuses-writing n k at r =
        (m.joins.refuses (format_number f) a b room 0 n k at p.octets_first p.octets_second).1 (writing f refl xs ys zs p.first p.second s r)

    makes-writing : length (write_recording f zs) ≤ limit → length (write_recording f zs) ≤ room
        → call (format_number f) a b room ≡ made (length zs, write_recording f zs)
    makes-writing l n =
        (m.joins.exactly (format_number f) a b room (length zs) (write_recording f zs) p.octets_first p.octets_second).1
        (slots_into (format_number f) a b room p.octets_first p.octets_second f refl xs ys zs p.first p.second s l n)

    ten_in_room : length (write_recording f zs) ≤ room → call (format_number f) a b room ≡ refused_in 0 10 0 0 → ⊥
    ten_in_room l h = go (leb (length (write_recording f zs)) limit) refl
      where
        go : (c : Bool) → leb (length (write_recording f zs)) limit ≡ c → ⊥
        go false e = omega (arith, (one_refusal (refuses-writing 9 0 0 (too_long (leb-false _ _ e))) h).1)
        go true e = not_made 0 10 0 0 _ (sym (makes-writing (leb-true _ _ e) l) ∙ h)

-- ---- they are refuted

nothing_read : ValidRecording if2 [] []
unfolding read_recording
nothing_read = refl

pub wrong_merges : WrongMerges
wrong_merges = record {
  declines = λ call none m. none 2 [] [] 0 0 [] (m.with_itself if2 [] [] 0 (λ i. omega arith) nothing_read (omega arith));
  bad_replaced = λ call xs ys zs i x g h t q n m. n ((gives-slots call m xs ys zs g).kept i x h t);
  gap_kept = λ call xs ys zs i x y g h t k u e m.
      let q = same-frame x y (sym e ∙ (gives-slots call m xs ys zs g).filled i x y h t k) in
      omega (arith, ap (λ (x : Frame). x.type) q);
  one_place_off = λ call xs ys zs i x y g h t k n e m. n (sym e ∙ (gives-slots call m xs ys zs g).filled i x y h t k);
  tail_lost = λ call xs ys zs g l e m. omega (arith, (gives-slots call m xs ys zs g).longer);
  two_headers = λ call a b zs room k oa ob h m. writes_header call m a b zs room k oa ob h;
  second_first = λ call f a b room n k at n' k' at' oa ob r h m.
      let e = (m.joins.refuses (format_number f) a b room 0 n k at oa ob).1 (first_refused f refl r) in
      omega (arith, (one_refusal e h).0);
  limit_missed = λ call f a b xs ys zs room p s l h m.
      h (refuses-writing call m f a b xs ys zs room p s 9 0 0 (too_long l));
  buffer_fits = λ call f a b xs ys zs room p s l h m. ten_in_room call m f a b xs ys zs room p s l h;
}
