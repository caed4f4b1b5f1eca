-- One frame: what is laid out is read again, and what is read is laid out again. Each field is `digits` of a number, and `num` reads it
-- back; the core stands behind the header, and the filling is 0. Assumes nothing.
use mathlib.Core.Path.{◌≡◌, refl, sym, ap, ap₂, ◌∙◌, subst}
use mathlib.Core.Bool.{Bool, true, false, not, ◌&&◌, ◌||◌, cond}
use mathlib.Core.List.{List, ◌++◌, append_assoc}
use Prim.Native.Nat.{ℕ, ◌+◌, ◌-◌, ◌*◌, ◌<◌, ◌≤◌}
use native.Mathlib.Omega.{arith}
use lib.Dec.{eqb, leb}
use lib.ListN.{length, take, drop, replicate, length-append, length-drop, take-append-drop}
use lib.Seq.{take_at, drop_at, drop-drop, take-add, take_all, length-take-le}
use borrow.Author.Tests.{leb-true, le-leb, eqb-true, eq-eqb}
use Rattle.bits.specs.Bits.{digits, num, clear, bits, pack, octets_for, Octets}
use Rattle.bits.proofs.BitLaws.{num-lt, num_front, num-clear, num-zero, num-append, digits-num-le, length-bits, bits-append, bits-take, bits_pack, length-pack, pack-unique, octets-take}
use Rattle.std.proofs.lemmas.Bool.{and_from}
use Rattle.bits.proofs.Tests.{and_left, and_right, or_else, given}
use Rattle.parity.specs.Crc.{crc}
use Rattle.parity.proofs.Register.{length-crc}
use Rattle.definitions.specs.Outcome.{refused, ok, unless}
use Rattle.definitions.specs.Frames.{Format, if1, if2, storage, Frame, known, core_bits, class_a, octets, carries_modes, modes_and_crc, header, layout, header_bits, spare_before, spare_after, type_in, quality_in, core_in, frame_in, fill_bits, fill_clear, spare_clear, sid_good, fields_good, crc_good}
use Rattle.definitions.specs.Reading.{read_with}
use Rattle.definitions.specs.Claims.{Valid, Begins}
use Rattle.definitions.proofs.Tables.{known-below, sized}

pub frame_path : (x y : Frame) → x.type ≡ y.type → x.quality ≡ y.quality → x.indication ≡ y.indication → x.request ≡ y.request
    → x.core ≡ y.core → x ≡ y
frame_path x y a b c d e = λ i. record { type = a i; quality = b i; indication = c i; request = d i; core = e i }

-- ---- refusal 6's test, taken apart

pub record FieldsGood (f : Format) (x : Frame) : Type 0 where
  pub indication : x.indication ≤ 8
  pub request : x.request ≤ 8
  pub not_carried : carries_modes f x.type ≡ false → (x.indication ≡ 0) × (x.request ≡ 0)

pub fields_are_good : (f : Format) (x : Frame) → fields_good f x ≡ true → FieldsGood f x
unfolding fields_good
fields_are_good f x h =
    let h₁ = and_right (leb x.indication 8) _ h in
    let h₂ = and_right (leb x.request 8) _ h₁ in
    let h₃ = and_right (sid_good x.type x.indication (num 4 (drop 36 x.core))) _ h₂ in
    record {
      indication = leb-true _ _ (and_left _ _ h);
      request = leb-true _ _ (and_left _ _ h₁);
      not_carried = λ e.
          let z = or_else (carries_modes f x.type) (eqb x.indication 0 && eqb x.request 0) h₃ e in
          (eqb-true _ _ (and_left _ _ z), eqb-true _ _ (and_right (eqb x.indication 0) _ z));
    }

-- ---- from a frame to octets and back

length_modes : (b : Bool) (x : Frame) → 8 + length (modes_and_crc b x) ≡ cond b 24 8
unfolding digits
length_modes true x = omega (arith, length-crc (take (class_a x.type) x.core))
length_modes false x = refl

pub length-header : (f : Format) (x : Frame) → length (header f x) ≡ header_bits f x.type
unfolding header digits
length-header if1 x = omega (arith, length_modes (leb x.type 9) x)
length-header if2 x = refl
length-header storage x = refl

-- the bits of a frame, with others behind them
abbrev pub laid : Format → Frame → List Bool → List Bool
laid f x z = (header f x ++ x.core) ++ z

type-laid : (f : Format) (x : Frame) (z : List Bool) → x.type < 16 → type_in f (laid f x z) ≡ x.type
unfolding header digits
type-laid if1 x z h = num_front 4 x.type _ h
type-laid if2 x z h = num_front 4 x.type _ h
type-laid storage x z h = num_front 4 x.type _ h

quality-laid : (f : Format) (x : Frame) (z : List Bool) → x.quality < 2 → quality_in f (laid f x z) ≡ x.quality
unfolding header digits
quality-laid if1 x z h = num_front 1 x.quality _ h
quality-laid if2 x z h = num_front 1 x.quality _ h
quality-laid storage x z h = num_front 1 x.quality _ h

pub after-header : (f : Format) (x : Frame) (z : List Bool) → drop (header_bits f x.type) (laid f x z) ≡ x.core ++ z
after-header f x z =
    ap (drop (header_bits f x.type)) (append_assoc (header f x) x.core z) ∙ drop_at (header f x) (x.core ++ z) _ (length-header f x)

core-laid : (f : Format) (x : Frame) (z : List Bool) → Valid f x → core_in f x.type (laid f x z) ≡ x.core
core-laid f x z v = ap (take (core_bits x.type)) (after-header f x z) ∙ take_at x.core z _ v.core_length

fill_laid : (f : Format) (x : Frame) (z : List Bool) → Valid f x → drop (header_bits f x.type + core_bits x.type) (laid f x z) ≡ z
fill_laid f x z v =
    sym (drop-drop (core_bits x.type) (header_bits f x.type) (laid f x z))
    ∙ ap (drop (core_bits x.type)) (after-header f x z) ∙ drop_at x.core z _ v.core_length

-- what stands behind the first octet of an IF1 frame
abbrev modes : Bool → Frame → List Bool → List Bool
modes b x z = (modes_and_crc b x ++ x.core) ++ z

indication_modes : (b : Bool) (x : Frame) (z : List Bool) → x.indication < 16 → (b ≡ false → x.indication ≡ 0)
    → cond b (num 4 (modes b x z)) 0 ≡ x.indication
unfolding digits
indication_modes true x z h n = num_front 4 x.indication _ h
indication_modes false x z h n = sym (n refl)

request_modes : (b : Bool) (x : Frame) (z : List Bool) → x.request < 16 → (b ≡ false → x.request ≡ 0)
    → cond b (num 4 (drop 4 (modes b x z))) 0 ≡ x.request
unfolding digits
request_modes true x z h n = num_front 4 x.request _ h
request_modes false x z h n = sym (n refl)

indication-laid : (f : Format) (x : Frame) (z : List Bool) → FieldsGood f x
    → cond (carries_modes f x.type) (num 4 (drop 8 (laid f x z))) 0 ≡ x.indication
unfolding header digits
indication-laid if1 x z g = indication_modes (leb x.type 9) x z (omega (arith, g.indication)) (λ e. (g.not_carried e).0)
indication-laid if2 x z g = sym (g.not_carried refl).0
indication-laid storage x z g = sym (g.not_carried refl).0

request-laid : (f : Format) (x : Frame) (z : List Bool) → FieldsGood f x
    → cond (carries_modes f x.type) (num 4 (drop 12 (laid f x z))) 0 ≡ x.request
unfolding header digits
request-laid if1 x z g = request_modes (leb x.type 9) x z (omega (arith, g.request)) (λ e. (g.not_carried e).1)
request-laid if2 x z g = sym (g.not_carried refl).1
request-laid storage x z g = sym (g.not_carried refl).1

frame-laid : (f : Format) (x : Frame) (z : List Bool) → Valid f x → frame_in f (laid f x z) ≡ x
unfolding frame_in
frame-laid f x z v =
    let bs = laid f x z in
    let t = type-laid f x z (known-below _ v.type_known) in
    let g = fields_are_good f x v.fields_are_good in
    frame_path _ _ t (quality-laid f x z (omega (arith, v.quality_bit)))
    (ap (λ t. cond (carries_modes f t) (num 4 (drop 8 bs)) 0) t ∙ indication-laid f x z g)
    (ap (λ t. cond (carries_modes f t) (num 4 (drop 12 bs)) 0) t ∙ request-laid f x z g)
    (ap (λ t. core_in f t bs) t ∙ core-laid f x z v)

fill_clear_lem : (f : Format) (x : Frame) (z : List Bool) → Valid f x
    → fill_clear f (type_in f (laid f x (replicate (fill_bits f x.type) false ++ z))) (laid f x (replicate (fill_bits f x.type) false ++ z)) ≡ true
fill_clear_lem f x z v =
    let r = replicate (fill_bits f x.type) false ++ z in
    ap (λ t. fill_clear f t (laid f x r)) (type-laid f x r (known-below _ v.type_known))
    ∙ eq-eqb _ 0 (ap (num (fill_bits f x.type)) (fill_laid f x r v) ∙ num-clear (fill_bits f x.type) z)

spares_laid : (f : Format) (x : Frame) (z : List Bool) → (num (spare_before f) (laid f x z) ≡ 0) × (num (spare_after f) (drop (spare_before f + 5) (laid f x z)) ≡ 0)
unfolding header digits
spares_laid if1 x z = (num_front 0 0 (laid if1 x z) (omega arith), num_front 3 0 _ (omega arith))
spares_laid if2 x z = (num_front 0 0 (laid if2 x z) (omega arith), num_front 0 0 (drop 5 (laid if2 x z)) (omega arith))
spares_laid storage x z = (num_front 1 0 _ (omega arith), num_front 2 0 _ (omega arith))

spare-laid : (f : Format) (x : Frame) (z : List Bool) → Valid f x → spare_clear f (laid f x (replicate (fill_bits f x.type) false ++ z)) ≡ true
unfolding spare_clear
spare-laid f x z v =
    let p = spares_laid f x (replicate (fill_bits f x.type) false ++ z) in
    and_from _ _ (eq-eqb _ 0 p.0) (and_from _ _ (eq-eqb _ 0 p.1) (fill_clear_lem f x z v))

crc_modes : (b : Bool) (x : Frame) (z : List Bool)
    → (not b || eqb (num 8 (drop 8 (modes b x z))) (num 8 (crc (take (class_a x.type) x.core)))) ≡ true
unfolding digits
crc_modes true x z =
    let c = crc (take (class_a x.type) x.core) in
    eq-eqb _ _ (ap (num 8) (append_assoc c x.core z) ∙ num-append 8 c (x.core ++ z) (omega (arith, length-crc (take (class_a x.type) x.core))))
crc_modes false x z = refl

crc-carried : (f : Format) (x : Frame) (z : List Bool)
    → (not (carries_modes f x.type) || eqb (num 8 (drop 16 (laid f x z))) (num 8 (crc (take (class_a x.type) x.core)))) ≡ true
unfolding header digits
crc-carried if1 x z = crc_modes (leb x.type 9) x z
crc-carried if2 x z = refl
crc-carried storage x z = refl

crc-laid : (f : Format) (x : Frame) (z : List Bool) → Valid f x → crc_good f (laid f x z) ≡ true
unfolding crc_good
crc-laid f x z v =
    let bs = laid f x z in
    ap (λ t. not (carries_modes f t) || eqb (num 8 (drop 16 bs)) (num 8 (crc (take (class_a t) (core_in f t bs))))) (type-laid f x z (known-below _ v.type_known))
    ∙ ap (λ c. not (carries_modes f x.type) || eqb (num 8 (drop 16 bs)) (num 8 (crc (take (class_a x.type) c)))) (core-laid f x z v)
    ∙ crc-carried f x z

-- ---- the octets

pub size-layout : (f : Format) (x : Frame) → known x.type ≡ true → length x.core ≡ core_bits x.type → length (layout f x) ≡ octets f x.type
unfolding layout
size-layout f x k l =
    length-pack (header f x ++ x.core)
    ∙ ap octets_for (length-append (header f x) x.core ∙ ap₂ ◌+◌ (length-header f x) l) ∙ sym (sized f x.type k).packed

pub length-layout : (f : Format) (x : Frame) → Valid f x → length (layout f x) ≡ octets f x.type
length-layout f x v = size-layout f x v.type_known v.core_length

pub bits-layout : (f : Format) (x : Frame) (rest : List ℕ) → Valid f x
    → bits (layout f x ++ rest) ≡ laid f x (replicate (fill_bits f x.type) false ++ bits rest)
unfolding layout
bits-layout f x rest v =
    let l = header f x ++ x.core in
    let n : length (header f x ++ x.core) ≡ header_bits f x.type + core_bits x.type =
    length-append (header f x) x.core ∙ ap₂ ◌+◌ (length-header f x) v.core_length in
    bits-append (pack l) rest
    ∙ ap (λ b. b ++ bits rest)
    (bits_pack l ∙ ap (λ k. l ++ replicate (8 * octets_for k - k) false) n
    ∙ ap (λ m. l ++ replicate (8 * m - (header_bits f x.type + core_bits x.type)) false) (sym (sized f x.type v.type_known).packed))
    ∙ append_assoc l (replicate (fill_bits f x.type) false) (bits rest)

-- a chain whose tests all hold
passes : {A : Type 0} (b₁ b₂ b₃ b₄ b₅ b₆ b₇ : Bool) (a : A) → b₁ ≡ true → b₂ ≡ true → b₃ ≡ true → b₄ ≡ true → b₅ ≡ true → b₆ ≡ true → b₇ ≡ true
    → unless 1 b₁ (unless 2 b₂ (unless 3 b₃ (unless 4 b₄ (unless 5 b₅ (unless 6 b₆ (unless 7 b₇ (ok a))))))) ≡ ok a
passes b₁ b₂ b₃ b₄ b₅ b₆ b₇ a h₁ h₂ h₃ h₄ h₅ h₆ h₇ = rw (h₁, h₂, h₃, h₄, h₅, h₆, h₇)

read-valid : (single : Bool) (f : Format) (s : List ℕ) (x : Frame) → 1 ≤ length s → known x.type ≡ true → octets f x.type ≤ length s
    → (not single || leb (length s) (octets f x.type)) ≡ true
    → frame_in f (bits s) ≡ x → type_in f (bits s) ≡ x.type → spare_clear f (bits s) ≡ true → fields_good f x ≡ true → crc_good f (bits s) ≡ true
    → read_with single f s ≡ ok (x, octets f x.type)
unfolding read_with
read-valid single f s x h₁ h₂ h₃ h₄ e t h₅ h₆ h₇ =
    let bs = bits s in
    let n = octets f (type_in f bs) in
    let en : octets f (type_in f (bits s)) ≡ octets f x.type = ap (octets f) t in
    passes (leb 1 (length s)) (known (type_in f bs)) (leb n (length s)) (not single || leb (length s) n) (spare_clear f bs) (fields_good f (frame_in f bs)) (crc_good f bs)
    (frame_in f bs, n) (le-leb 1 (length s) h₁) (ap known t ∙ h₂) (ap (λ m. leb m (length s)) en ∙ le-leb _ _ h₃)
    (ap (λ m. not single || leb (length s) m) en ∙ h₄) h₅ (ap (fields_good f) e ∙ h₆) h₇
    ∙ ap₂ (λ y m. ok (y, m)) e en

-- what is laid out is read again
pub read-layout : (single : Bool) (f : Format) (x : Frame) (rest : List ℕ) → Valid f x
    → (not single || leb (length (layout f x ++ rest)) (octets f x.type)) ≡ true → read_with single f (layout f x ++ rest) ≡ ok (x, octets f x.type)
read-layout single f x rest v h =
    let z = replicate (fill_bits f x.type) false ++ bits rest in
    let b = bits-layout f x rest v in
    let n = sized f x.type v.type_known in
    let l : length (layout f x ++ rest) ≡ octets f x.type + length rest = length-append (layout f x) rest ∙ ap (λ k. k + length rest) (length-layout f x v) in
    read-valid single f (layout f x ++ rest) x (omega (arith, n.some-octet)) v.type_known (omega arith) h
    (ap (frame_in f) b ∙ frame-laid f x z v) (ap (type_in f) b ∙ type-laid f x z (known-below _ v.type_known))
    (ap (spare_clear f) b ∙ spare-laid f x (bits rest) v) v.fields_are_good (ap (crc_good f) b ∙ crc-laid f x z v)

-- ---- from octets to a frame and back

-- a field, and then the bits behind it
field_then : (a k m : ℕ) (bs l : List Bool) → a + k ≤ length bs → l ≡ take m (drop (a + k) bs) → digits k (num k (drop a bs)) ++ l ≡ take (k + m) (drop a bs)
field_then a k m bs l h e =
    ap₂ (λ x y. x ++ y) (digits-num-le k (drop a bs) (omega (arith, length-drop a bs))) (e ∙ ap (take m) (sym (drop-drop k a bs)))
    ∙ sym (take-add k m (drop a bs))

clear_then : (a k m : ℕ) (bs l : List Bool) → a + k ≤ length bs → clear k (drop a bs) ≡ true → l ≡ take m (drop (a + k) bs) → digits k 0 ++ l ≡ take (k + m) (drop a bs)
clear_then a k m bs l h c e = ap (λ n. digits k n ++ l) (sym (eqb-true _ _ c)) ∙ field_then a k m bs l h e

crc_again : (m bs : List Bool) → 8 ≤ length bs → num 8 bs ≡ num 8 (crc m) → crc m ≡ take 8 bs
crc_again m bs h e =
    sym (take_all 8 (crc m) (omega (arith, length-crc m))) ∙ sym (digits-num-le 8 (crc m) (omega (arith, length-crc m)))
    ∙ ap (digits 8) (sym e) ∙ digits-num-le 8 bs h

module _ (bs : List Bool) where
  if1_again : (b : Bool) → leb (num 4 bs) 9 ≡ b → cond b 24 8 ≤ length bs → clear 3 (drop 5 bs) ≡ true → crc_good if1 bs ≡ true
      → digits 4 (num 4 bs) ++ (digits 1 (num 1 (drop 4 bs)) ++ (digits 3 0 ++ modes_and_crc b (frame_in if1 bs))) ≡ take (cond b 24 8) bs
  unfolding frame_in crc_good
  if1_again false e l s c = field_then 0 4 4 bs _ (omega arith) (field_then 4 1 3 bs _ (omega arith) (clear_then 5 3 0 bs _ (omega arith) s refl))
  if1_again true e l s c =
      let m = crc (take (class_a (num 4 bs)) (core_in if1 (num 4 bs) bs)) in
      let y : crc (take (class_a (num 4 bs)) (core_in if1 (num 4 bs) bs)) ≡ take 8 (drop 16 bs) =
      crc_again (take (class_a (num 4 bs)) (core_in if1 (num 4 bs) bs)) (drop 16 bs) (omega (arith, length-drop 16 bs))
      (eqb-true _ _ (given (leb (num 4 bs) 9) _ c e)) in
      ap₂ (λ i r. digits 4 (num 4 bs) ++ (digits 1 (num 1 (drop 4 bs)) ++ (digits 3 0 ++ (digits 4 i ++ (digits 4 r ++ m)))))
      (ap (λ b. cond b (num 4 (drop 8 bs)) 0) e) (ap (λ b. cond b (num 4 (drop 12 bs)) 0) e)
      ∙ field_then 0 4 20 bs _ (omega arith) (field_then 4 1 19 bs _ (omega arith) (clear_then 5 3 16 bs _ (omega arith) s
      (field_then 8 4 12 bs _ (omega arith) (field_then 12 4 8 bs _ (omega arith) y))))

-- the header of the frame that is read is the header that was there
header_again : (f : Format) (bs : List Bool) → header_bits f (type_in f bs) ≤ length bs → spare_clear f bs ≡ true → crc_good f bs ≡ true
    → header f (frame_in f bs) ≡ take (header_bits f (type_in f bs)) bs
unfolding header spare_clear frame_in
header_again if1 bs l s c = if1_again bs (leb (num 4 bs) 9) refl l (and_left _ _ (and_right (clear 0 bs) _ s)) c
header_again if2 bs l s c = field_then 0 4 1 bs _ (omega arith) (digits-num-le 1 (drop 4 bs) (omega (arith, length-drop 4 bs)))
header_again storage bs l s c =
    clear_then 0 1 7 bs _ (omega arith) (and_left _ _ s) (field_then 1 4 3 bs _ (omega arith) (field_then 5 1 2 bs _ (omega arith)
    (ap (digits 2) (sym (eqb-true _ _ (and_left _ _ (and_right (clear 1 bs) _ s)))) ∙ digits-num-le 2 (drop 6 bs) (omega (arith, length-drop 6 bs)))))

fill_again : (f : Format) (bs : List Bool) → spare_clear f bs ≡ true → fill_clear f (type_in f bs) bs ≡ true
unfolding spare_clear
fill_again f bs s = and_right (clear (spare_after f) (drop (spare_before f + 5) bs)) _ (and_right (clear (spare_before f) bs) _ s)

pub type-frame : (f : Format) (bs : List Bool) → (frame_in f bs).type ≡ type_in f bs
unfolding frame_in
type-frame f bs = refl

-- the octets s begin with a frame of type t that passes the tests 2, 3, 5, 6 and 7
module _ (f : Format) (s : List ℕ) (o : Octets s) (k : known (type_in f (bits s)) ≡ true) (enough : octets f (type_in f (bits s)) ≤ length s)
    (spare : spare_clear f (bits s) ≡ true) (fields : fields_good f (frame_in f (bits s)) ≡ true) (check : crc_good f (bits s) ≡ true) where
  room : header_bits f (type_in f (bits s)) + core_bits (type_in f (bits s)) ≤ 8 * octets f (type_in f (bits s))
  room = omega (arith, (sized f (type_in f (bits s)) k).packed)

  core-size : length (core_in f (type_in f (bits s)) (bits s)) ≡ core_bits (type_in f (bits s))
  core-size =
      length-take-le (core_bits (type_in f (bits s))) (drop (header_bits f (type_in f (bits s))) (bits s))
      (omega (arith, length-drop (header_bits f (type_in f (bits s))) (bits s), length-bits s, room))

  pub frame-valid : Valid f (frame_in f (bits s))
  unfolding frame_in
  frame-valid = record {
    type_known = k;
    quality_bit = omega (arith, num-lt 1 (drop (spare_before f + 4) (bits s)));
    core_length = core-size;
    fields_are_good = fields;
  }

  -- the bits of the frame's octets: header, core and filling
  parts : bits (take (octets f (type_in f (bits s))) s)
      ≡ (header f (frame_in f (bits s)) ++ core_in f (type_in f (bits s)) (bits s)) ++ replicate (fill_bits f (type_in f (bits s))) false
  parts =
      let bs = bits s in
      let t = type_in f bs in
      let h = header_bits f t in
      let i = fill_bits f t in
      let all : 8 * octets f (type_in f (bits s)) ≡ header_bits f (type_in f (bits s)) + (core_bits (type_in f (bits s)) + fill_bits f (type_in f (bits s))) = omega (arith, room) in
      let head = header_again f bs (omega (arith, length-bits s, room)) spare check in
      let fill : take (fill_bits f (type_in f (bits s))) (drop (header_bits f (type_in f (bits s)) + core_bits (type_in f (bits s))) (bits s)) ≡ replicate (fill_bits f (type_in f (bits s))) false =
      (num-zero i (drop (h + core_bits t) bs) (omega (arith, length-drop (h + core_bits t) bs, length-bits s, room))).0 (eqb-true _ _ (fill_again f bs spare)) in
      bits-take (octets f t) s ∙ ap (λ n. take n bs) all ∙ take-add h (core_bits t + i) bs
      ∙ ap₂ (λ a b. a ++ b) (sym head) (take-add (core_bits t) i (drop h bs) ∙ ap (λ l. take (core_bits t) (drop h bs) ++ take i l) (drop-drop (core_bits t) h bs)
      ∙ ap (λ l. take (core_bits t) (drop h bs) ++ l) fill)
      ∙ sym (append_assoc (header f (frame_in f bs)) (core_in f t bs) (replicate i false))

  pub layout_again : take (octets f (type_in f (bits s))) s ≡ layout f (frame_in f (bits s))
  unfolding layout frame_in
  layout_again =
      let bs = bits s in
      let t = type_in f bs in
      pack-unique (take (octets f t) s) (header f (frame_in f bs) ++ core_in f t bs) (fill_bits f t) (octets-take (octets f t) s o)
      (length-take-le (octets f t) s enough ∙ (sized f t k).packed
      ∙ ap octets_for (sym (length-append (header f (frame_in f bs)) (core_in f t bs) ∙ ap₂ ◌+◌ (length-header f (frame_in f bs)) core-size)))
      parts

-- ---- what the reader accepts

pub never : {A B : Type 0} (n : ℕ) (a : A) → refused n ≡ ok a → B
never n a h = absurd (let z : ◌≡◌ {A = ℕ} 0 1 = cc in omega arith)

-- a chain that refuses nothing has passed each test
passed : {A : Type 0} (b₁ b₂ b₃ b₄ b₅ b₆ b₇ : Bool) (a y : A)
    → unless 1 b₁ (unless 2 b₂ (unless 3 b₃ (unless 4 b₄ (unless 5 b₅ (unless 6 b₆ (unless 7 b₇ (ok a))))))) ≡ ok y
    → (b₂ ≡ true) × (b₃ ≡ true) × (b₄ ≡ true) × (b₅ ≡ true) × (b₆ ≡ true) × (b₇ ≡ true) × (a ≡ y)
passed true true true true true true true a y h = (refl, refl, refl, refl, refl, refl, cc)
passed false b₂ b₃ b₄ b₅ b₆ b₇ a y h = never 1 y h
passed true false b₃ b₄ b₅ b₆ b₇ a y h = never 2 y h
passed true true false b₄ b₅ b₆ b₇ a y h = never 3 y h
passed true true true false b₅ b₆ b₇ a y h = never 4 y h
passed true true true true false b₆ b₇ a y h = never 5 y h
passed true true true true true false b₇ a y h = never 6 y h
passed true true true true true true false a y h = never 7 y h

-- what the reader has judged of the octets when it shows y
pub record Judged (single : Bool) (f : Format) (s : List ℕ) (y : Frame × ℕ) : Type 0 where
  pub type_known : known (type_in f (bits s)) ≡ true
  pub enough : octets f (type_in f (bits s)) ≤ length s
  pub ending : (not single || leb (length s) (octets f (type_in f (bits s)))) ≡ true
  pub spare : spare_clear f (bits s) ≡ true
  pub fields : fields_good f (frame_in f (bits s)) ≡ true
  pub check : crc_good f (bits s) ≡ true
  pub shown : ◌≡◌ {A = Frame × ℕ} (frame_in f (bits s), octets f (type_in f (bits s))) y

pub judged : (single : Bool) (f : Format) (s : List ℕ) (y : Frame × ℕ) → read_with single f s ≡ ok y → Judged single f s y
unfolding read_with
judged single f s y h =
    let bs = bits s in
    let t = type_in f bs in
    let r =
    passed (leb 1 (length s)) (known t) (leb (octets f t) (length s)) (not single || leb (length s) (octets f t)) (spare_clear f bs) (fields_good f (frame_in f bs)) (crc_good f bs)
    (frame_in f bs, octets f t) y h in
    record { type_known = r.0; enough = leb-true _ _ r.1; ending = r.2; spare = r.3; fields = r.4; check = r.5; shown = r.6 }

-- what is shown has a known type, and all its octets are there
pub read_known : (single : Bool) (f : Format) (s : List ℕ) (x : Frame) (n : ℕ) → read_with single f s ≡ ok (x, n)
    → (known x.type ≡ true) × (octets f x.type ≤ length s) × (n ≡ octets f x.type)
read_known single f s x n h =
    let j = judged single f s (x, n) h in
    let same : type_in f (bits s) ≡ x.type = sym (type-frame f (bits s)) ∙ ap (λ (y : Frame × ℕ). y.0.type) j.shown in (
      ap known (sym same) ∙ j.type_known,
      subst (λ u. octets f u ≤ length s) same j.enough,
      sym (ap (λ (y : Frame × ℕ). y.1) j.shown) ∙ ap (octets f) same,
    )

-- what is read is laid out again
pub read-begins : (single : Bool) (f : Format) (s : List ℕ) (x : Frame) (n : ℕ) → Octets s → read_with single f s ≡ ok (x, n)
    → Begins f s x n × ((not single || leb (length s) n) ≡ true)
read-begins single f s x n o h =
    let bs = bits s in
    let j = judged single f s (x, n) h in
    let v = frame-valid f s o j.type_known j.enough j.spare j.fields j.check in
    let b : Begins f s (frame_in f (bits s)) (octets f (type_in f (bits s))) = record {
      valid = v;
      size = length-layout f (frame_in f bs) v ∙ ap (octets f) (type-frame f bs);
      laid = layout_again f s o j.type_known j.enough j.spare j.fields j.check;
    } in
    subst (λ y. Begins f s y.0 y.1 × ((not single || leb (length s) y.1) ≡ true)) j.shown (b, j.ending)

pub begins-read : (single : Bool) (f : Format) (s : List ℕ) (x : Frame) (n : ℕ) → Begins f s x n → (not single || leb (length s) n) ≡ true
    → read_with single f s ≡ ok (x, n)
begins-read single f s x n b h =
    let m : octets f x.type ≡ n = sym (length-layout f x b.valid) ∙ b.size in
    let e : layout f x ++ drop n s ≡ s = ap (λ l. l ++ drop n s) (sym b.laid) ∙ take-append-drop n s in
    ap (read_with single f) (sym e)
    ∙ read-layout single f x (drop n s) b.valid (ap₂ (λ l k. not single || leb (length l) k) e m ∙ h)
    ∙ ap (λ k. ok (x, k)) m
