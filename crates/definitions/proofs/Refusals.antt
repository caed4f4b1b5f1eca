-- Each test of a chain fails exactly on its number's condition, so the chain refuses by the first whose condition holds. Assumes nothing.
use mathlib.Core.Path.{◌≡◌, refl, sym, ap, ◌∙◌, subst}
use mathlib.Core.Bool.{Bool, true, false, not, ◌&&◌, ◌||◌, true≢false, false≢true}
use mathlib.Core.List.{List, [], ◌∷◌, ◌++◌}
use mathlib.Core.Logic.{◌⊎◌, inl, inr, ⊎_elim, ◌↔◌}
use Prim.Native.Nat.{ℕ, zero, suc, ◌+◌, ◌-◌, ◌*◌, ◌≤◌, ◌<◌}
use native.Mathlib.Omega.{arith}
use lib.Dec.{eqb, leb}
use lib.Pow.{pow_pos}
use lib.ListN.{length, get_or, drop}
use lib.Seq.{get_or-drop}
use borrow.Author.Tests.{not-true, not-false, leb-true, leb-false, le-leb, lt-leb, eqb-true, eqb-false, eq-eqb}
use Rattle.bits.specs.Bits.{num, clear, bits, Octets}
use Rattle.bits.proofs.BitLaws.{num-lt, num_front, bits-drop, octets-drop}
use Rattle.std.proofs.lemmas.Bool.{and_from, and_cases, or_left, or_parts, or_from, false_from_ne_true, true_from_ne_false}
use Rattle.bits.proofs.Tests.{and_left, and_right, or_else, given, every_below_lem}
use Rattle.definitions.specs.Outcome.{Outcome, refused, ok, and_then}
use Rattle.definitions.specs.Frames.{Format, if1, if2, storage, Frame, layout, known, core_bits, octets, core_octets, carries_modes, header_bits, sid_good, spare_before, spare_after, type_in, frame_in, fill_bits, spare_clear, fields_good, crc_good}
use Rattle.definitions.specs.Reading.{read_with, format_numbered, into_buffer, read_call, core_fill_clear, frame_of, build_check, build_frame}
use Rattle.definitions.specs.Refusals.{refusal_order, FirstOf, Reserved, SparePlace, IsOne, FieldFault, FrameFault, RefusesFrames, CallFault, RefusesCalls, BuildFault, RefusesBuilds}
use Rattle.definitions.proofs.Frames.{fields_are_good, never}
use Rattle.definitions.proofs.Outcome.{judge, Decides, Fails, also, no_refusal, refuses-first, refuses-head, judge-then}

-- ---- bits that are 0

clear-some : (k : ℕ) (l : List Bool) → clear k l ≡ false → (i : ℕ) × (i < k) × IsOne l i
unfolding num
clear-some zero l h = absurd (true≢false h)
clear-some (suc k) [] h = absurd (true≢false h)
clear-some (suc k) (true ∷ l) h = (0, omega arith, refl)
clear-some (suc k) (false ∷ l) h =
    let r = clear-some k l (ap (λ n. eqb n 0) (omega arith) ∙ h) in
    (suc r.0, omega (arith, r.1), r.2)

clear-none : (k : ℕ) (l : List Bool) (i : ℕ) → clear k l ≡ true → i < k → IsOne l i → ⊥
unfolding num
clear-none zero l i h b e = omega arith
clear-none (suc k) [] i h b e = false≢true e
clear-none (suc k) (true ∷ l) i h b e = omega (arith, eqb-true _ _ h, pow_pos k)
clear-none (suc k) (false ∷ l) zero h b e = false≢true e
clear-none (suc k) (false ∷ l) (suc i) h b e = clear-none k l i (ap (λ n. eqb n 0) (omega arith) ∙ h) (omega arith) e

-- the k bits from a on
pub one-from : (a k : ℕ) (l : List Bool) → clear k (drop a l) ≡ false → (i : ℕ) × (a ≤ i) × (i < a + k) × IsOne l i
one-from a k l h =
    let r = clear-some k (drop a l) h in
    (a + r.0, omega arith, omega (arith, r.1), sym (get_or-drop a l r.0 false) ∙ r.2)

pub none-from : (a k : ℕ) (l : List Bool) (i : ℕ) → clear k (drop a l) ≡ true → a ≤ i → i < a + k → IsOne l i → ⊥
none-from a k l i h b e o =
    clear-none k (drop a l) (i - a) h (omega arith) (get_or-drop a l (i - a) false ∙ ap (λ n. get_or l n false) (omega arith) ∙ o)

-- ---- what a number says

pub frame-number : (single : Bool) (f : Format) (s : List ℕ) (n : ℕ) → FrameFault single f s n → (1 ≤ n) × (n ≤ 7)
frame-number single f s n (FrameFault.no_octets e) = (omega arith, omega arith)
frame-number single f s n (FrameFault.reserved_type e) = (omega arith, omega arith)
frame-number single f s n (FrameFault.too_few e) = (omega arith, omega arith)
frame-number single f s n (FrameFault.octets_after o e) = (omega arith, omega arith)
frame-number single f s n (FrameFault.spare_bit i p e) = (omega arith, omega arith)
frame-number single f s n (FrameFault.filling_bit i p e) = (omega arith, omega arith)
frame-number single f s n (FrameFault.field e) = (omega arith, omega arith)
frame-number single f s n (FrameFault.another_crc e t c) = (omega arith, omega arith)

-- ---- the tests, each with its number's condition

-- 2
pub reserved-known : (t : ℕ) → t < 16 → (known t ≡ false) ↔ Reserved t
unfolding known
reserved-known t h = (
  (λ e.
      let g = or_else (known t) (leb 10 t && leb t 13) (every_below_lem 16 (λ t. known t || (leb 10 t && leb t 13)) refl t h) e in
      (leb-true 10 t (and_left _ _ g), leb-true t 13 (and_right (leb 10 t) _ g))),
  (λ r.
      not-true _ (given (leb 10 t && leb t 13) (not (known t)) (every_below_lem 16 (λ t. not (leb 10 t && leb t 13) || not (known t)) refl t h)
      (and_from _ _ (le-leb 10 t r.0) (le-leb t 13 r.1)))),
)

-- 5: the spare bits by their places
spare-places : (f : Format) (i : ℕ) → SparePlace f i → (i < spare_before f) ⊎ ((spare_before f + 5 ≤ i) × (i < spare_before f + 5 + spare_after f))
spare-places if1 i p = inr (omega (arith, p.0), omega (arith, p.1))
spare-places if2 i p = absurd p
spare-places storage i (inl e) = inl (omega arith)
spare-places storage i (inr p) = inr (omega (arith, p.0), omega (arith, p.1))

place-before : (f : Format) (i : ℕ) → i < spare_before f → SparePlace f i
place-before if1 i h = absurd (omega arith)
place-before if2 i h = absurd (omega arith)
place-before storage i h = inl (omega arith)

place-after : (f : Format) (i : ℕ) → spare_before f + 5 ≤ i → i < spare_before f + 5 + spare_after f → SparePlace f i
place-after if1 i h b = (omega arith, omega arith)
place-after if2 i h b = absurd (omega arith)
place-after storage i h b = inr (omega arith, omega arith)

-- 6: the fields
pub fields-fail : (f : Format) (x : Frame) → (fields_good f x ≡ false) ↔ FieldFault f x
unfolding fields_good
fields-fail f x = (fails, λ z. false_from_ne_true _ (passes z))
  where
    mode : ℕ
    mode = num 4 (drop 36 x.core)

    carried : carries_modes f x.type ≡ false → (eqb x.indication 0 && eqb x.request 0) ≡ false → FieldFault f x
    carried c e =
        ⊎_elim (λ i. let n = eqb-false x.indication 0 i in FieldFault.indication_not_carried c (omega arith))
        (λ r. let n = eqb-false x.request 0 r in FieldFault.request_not_carried c (omega arith)) (and_cases _ _ e)

    sid : sid_good x.type x.indication mode ≡ false → FieldFault f x
    sid e =
        let p = or_parts _ _ e in
        let t = eqb-true x.type 9 (not-false _ p.0) in
        ⊎_elim (λ i. let n = eqb-false x.indication 0 i in FieldFault.sid_indication t (omega arith))
        (λ m. FieldFault.sid_mode t (leb-false mode 8 m)) (and_cases _ _ p.1)

    fails : fields_good f x ≡ false → FieldFault f x
    fails h =
        ⊎_elim (λ i. FieldFault.indication_above (leb-false x.indication 8 i))
        (λ h. ⊎_elim (λ r. FieldFault.request_above (leb-false x.request 8 r))
        (λ h. ⊎_elim sid (λ u. let p = or_parts _ _ u in carried p.0 p.1) (and_cases _ _ h)) (and_cases _ _ h)) (and_cases _ _ h)

    sid-kept : x.type ≡ 9 → fields_good f x ≡ true → (eqb x.indication 0 && leb mode 8) ≡ true
    sid-kept t h =
        let h₁ = and_right (leb x.indication 8) _ h in
        let h₂ = and_right (leb x.request 8) _ h₁ in
        given (eqb x.type 9) (eqb x.indication 0 && leb mode 8) (and_left _ _ h₂) (eq-eqb x.type 9 t)

    passes : FieldFault f x → fields_good f x ≡ true → ⊥
    passes (FieldFault.indication_above a) h = omega (arith, a, (fields_are_good f x h).indication)
    passes (FieldFault.request_above a) h = omega (arith, a, (fields_are_good f x h).request)
    passes (FieldFault.sid_indication t a) h = omega (arith, a, eqb-true x.indication 0 (and_left _ _ (sid-kept t h)))
    passes (FieldFault.sid_mode t a) h = omega (arith, a, leb-true mode 8 (and_right (eqb x.indication 0) _ (sid-kept t h)))
    passes (FieldFault.indication_not_carried c a) h = omega (arith, a, ((fields_are_good f x h).not_carried c).0)
    passes (FieldFault.request_not_carried c a) h = omega (arith, a, ((fields_are_good f x h).not_carried c).1)

-- 7: the CRC octet
first-octet : (s : List ℕ) → Octets s → num 8 (bits s) ≡ get_or s 0 0
unfolding bits num
first-octet [] o = refl
first-octet (x ∷ s) o = num_front 8 x (bits s) (o 0)

octet-number : (i : ℕ) (s : List ℕ) → Octets s → num 8 (drop (8 * i) (bits s)) ≡ get_or s i 0
octet-number i s o =
    ap (num 8) (sym (bits-drop i s)) ∙ first-octet (drop i s) (octets-drop i s o) ∙ get_or-drop i s 0 0 ∙ ap (λ n. get_or s n 0) (omega arith)

carried : (f : Format) (t : ℕ) → carries_modes f t ≡ true → (f ≡ if1) × (t ≤ 9)
carried if1 t h = (refl, leb-true t 9 h)
carried if2 t h = absurd (false≢true h)
carried storage t h = absurd (false≢true h)

-- 1 to 7, each by its test in `read_with`
module _ (single : Bool) (f : Format) (s : List ℕ) where
  abbrev type : ℕ
  type = type_in f (bits s)

  abbrev core_end : ℕ
  core_end = header_bits f type + core_bits type

  length-fails : (leb 1 (length s) ≡ false) ↔ FrameFault single f s 1
  length-fails = ((λ h. FrameFault.no_octets (omega (arith, leb-false 1 (length s) h))), back)
    where
      back : FrameFault single f s 1 → leb 1 (length s) ≡ false
      back (FrameFault.no_octets e) = lt-leb 1 (length s) (omega arith)

  type-fails : (known type ≡ false) ↔ FrameFault single f s 2
  type-fails = ((λ h. FrameFault.reserved_type ((reserved-known type below).0 h)), back)
    where
      below : type_in f (bits s) < 16
      below = num-lt 4 (drop (spare_before f) (bits s))

      back : FrameFault single f s 2 → known type ≡ false
      back (FrameFault.reserved_type r) = (reserved-known type below).1 r

  enough-fails : (leb (octets f type) (length s) ≡ false) ↔ FrameFault single f s 3
  enough-fails = ((λ h. FrameFault.too_few (leb-false _ _ h)), back)
    where
      back : FrameFault single f s 3 → leb (octets f type) (length s) ≡ false
      back (FrameFault.too_few h) = lt-leb (octets f type) (length s) h

  end-fails : ((not single || leb (length s) (octets f type)) ≡ false) ↔ FrameFault single f s 4
  end-fails = ((λ h. let p = or_parts _ _ h in FrameFault.octets_after (not-false _ p.0) (leb-false _ _ p.1)), back)
    where
      back : FrameFault single f s 4 → (not single || leb (length s) (octets f type)) ≡ false
      back (FrameFault.octets_after e h) = or_from _ _ (ap not e) (lt-leb (length s) (octets f type) h)

  spare-fails : (spare_clear f (bits s) ≡ false) ↔ FrameFault single f s 5
  unfolding spare_clear
  spare-fails = (fails, λ x. false_from_ne_true _ (passes x))
    where
      fails : spare_clear f (bits s) ≡ false → FrameFault single f s 5
      fails h =
          ⊎_elim (λ e. let r = one-from 0 (spare_before f) (bits s) e in FrameFault.spare_bit r.0 (place-before f r.0 (omega (arith, r.2))) r.3)
          (λ h. ⊎_elim
          (λ e. let r = one-from (spare_before f + 5) (spare_after f) (bits s) e in FrameFault.spare_bit r.0 (place-after f r.0 r.1 r.2) r.3)
          (λ e. let r = one-from core_end (fill_bits f type) (bits s) e in FrameFault.filling_bit r.0 (r.1, omega (arith, r.2)) r.3)
          (and_cases _ _ h)) (and_cases _ _ h)

      passes : FrameFault single f s 5 → spare_clear f (bits s) ≡ true → ⊥
      passes (FrameFault.spare_bit i p o) h =
          let h₁ = and_right (clear (spare_before f) (bits s)) _ h in
          ⊎_elim (λ b. none-from 0 (spare_before f) (bits s) i (and_left _ _ h) (omega arith) (omega (arith, b)) o)
          (λ b. none-from (spare_before f + 5) (spare_after f) (bits s) i (and_left _ _ h₁) b.0 b.1 o) (spare-places f i p)
      passes (FrameFault.filling_bit i p o) h =
          let h₁ = and_right (clear (spare_before f) (bits s)) _ h in
          let h₂ = and_right (clear (spare_after f) (drop (spare_before f + 5) (bits s))) _ h₁ in
          none-from core_end (fill_bits f type) (bits s) i h₂ p.0 (omega (arith, p.0, p.1)) o

  field-fails : (fields_good f (frame_in f (bits s)) ≡ false) ↔ FrameFault single f s 6
  field-fails = ((λ h. FrameFault.field ((fields-fail f (frame_in f (bits s))).0 h)), back)
    where
      back : FrameFault single f s 6 → fields_good f (frame_in f (bits s)) ≡ false
      back (FrameFault.field x) = (fields-fail f (frame_in f (bits s))).1 x

  crc-fails : Octets s → (crc_good f (bits s) ≡ false) ↔ FrameFault single f s 7
  unfolding crc_good
  crc-fails o = (fails, λ x. false_from_ne_true _ (passes x))
    where
      fails : crc_good f (bits s) ≡ false → FrameFault single f s 7
      fails h =
          let p = or_parts _ _ h in
          let c = carried f type (not-false _ p.0) in
          FrameFault.another_crc c.0 c.1 (λ e. eqb-false _ _ p.1 (octet-number 2 s o ∙ e))

      passes : FrameFault single f s 7 → crc_good f (bits s) ≡ true → ⊥
      passes (FrameFault.another_crc e t n) h =
          n (sym (octet-number 2 s o) ∙ eqb-true _ _ (given (carries_modes f type) _ h (ap (λ f. carries_modes f type) e ∙ le-leb type 9 t)))

-- ---- reading

-- the tests of a frame
abbrev pub tests : (single : Bool) → Format → List ℕ → List (ℕ × Bool)
tests single f s =
    let bs : List Bool = bits s in
    let n : ℕ = octets f (type_in f bs) in
    (1, leb 1 (length s)) ∷ (2, known (type_in f bs)) ∷ (3, leb n (length s)) ∷ (4, not single || leb (length s) n) ∷ (5, spare_clear f bs)
    ∷ (6, fields_good f (frame_in f bs)) ∷ (7, crc_good f bs) ∷ []

-- where a call's conditions of 1 to 7 are the frame's
module _ (single : Bool) (f : Format) (s : List ℕ) (o : Octets s) (fault : ℕ → Type 0)
    (same : (n : ℕ) → 1 ≤ n → n ≤ 7 → fault n ↔ FrameFault single f s n) where
  one : (n : ℕ) (t : Bool) (ts : List (ℕ × Bool)) → 1 ≤ n → n ≤ 7 → (t ≡ false) ↔ FrameFault single f s n → Decides fault ts → Decides fault ((n, t) ∷ ts)
  one n t ts l m e d = also fault (n, t) ts ((λ h. (same n l m).1 (e.0 h)), (λ x. e.1 ((same n l m).0 x))) d

  pub tests-decide : (ts : List (ℕ × Bool)) → Decides fault ts → Decides fault (tests single f s ++ ts)
  tests-decide ts d =
      one 1 _ _ (omega arith) (omega arith) (length-fails single f s)
      (one 2 _ _ (omega arith) (omega arith) (type-fails single f s)
      (one 3 _ _ (omega arith) (omega arith) (enough-fails single f s)
      (one 4 _ _ (omega arith) (omega arith) (end-fails single f s)
      (one 5 _ _ (omega arith) (omega arith) (spare-fails single f s)
      (one 6 _ _ (omega arith) (omega arith) (field-fails single f s)
      (one 7 _ _ (omega arith) (omega arith) (crc-fails single f s o) d))))))

abbrev pub of_frame : ℕ → Bool
of_frame n = leb 1 n && leb n 7

pub frame-only : (single : Bool) (f : Format) (s : List ℕ) (n : ℕ) → FrameFault single f s n → of_frame n ≡ true
frame-only single f s n x = let r = frame-number single f s n x in and_from _ _ (le-leb 1 n r.0) (le-leb n 7 r.1)

pub refuses-frames : (single : Bool) → RefusesFrames single (read_with single)
unfolding read_with
refuses-frames single = record {
  exactly = λ f s n o.
      let fault = FrameFault single f s in
      refuses-first fault of_frame (frame-only single f s) refusal_order (tests single f s) (frame_in f (bits s), octets f (type_in f (bits s))) n refl
      (tests-decide single f s o fault (λ n l m. ((λ x. x), (λ x. x))) [] Decides.none);
}

-- ---- a call that reads one frame

format-known : (format : ℕ) (f : Format) → format_numbered format ≡ ok f → (1 ≤ format) × (format ≤ 3)
format-known zero f e = never 11 f e
format-known (suc zero) f e = (omega arith, omega arith)
format-known (suc (suc zero)) f e = (omega arith, omega arith)
format-known (suc (suc (suc zero))) f e = (omega arith, omega arith)
format-known (suc (suc (suc (suc n)))) f e = never 11 f e

format-unknown : (format n : ℕ) → format_numbered format ≡ refused n → (format ≡ 0) ⊎ (3 < format)
format-unknown zero n e = inl refl
format-unknown (suc zero) n e = no_refusal if1 n e
format-unknown (suc (suc zero)) n e = no_refusal if2 n e
format-unknown (suc (suc (suc zero))) n e = no_refusal storage n e
format-unknown (suc (suc (suc (suc n)))) m e = inr (omega arith)

format-11 : (format n : ℕ) → format_numbered format ≡ refused n → format_numbered format ≡ refused 11
format-11 zero n e = refl
format-11 (suc zero) n e = no_refusal if1 n e
format-11 (suc (suc zero)) n e = no_refusal if2 n e
format-11 (suc (suc (suc zero))) n e = no_refusal storage n e
format-11 (suc (suc (suc (suc n)))) m e = refl

-- in a known format
module _ (format : ℕ) (s : List ℕ) (room : ℕ) (f : Format) (e : format_numbered format ≡ ok f) where
  call-frame : (n : ℕ) → n ≤ 7 → CallFault format s room n → FrameFault true f s n
  call-frame n m (CallFault.no_format h) = absurd (omega arith)
  call-frame n m (CallFault.in_frame g h x) = let same : g ≡ f = cc in subst (λ h. FrameFault true h s n) same x
  call-frame n m (CallFault.too_little_room g h x) = absurd (omega arith)

  abbrev of_call : ℕ → Bool
  of_call n = of_frame n || eqb n 10

  call-only : (n : ℕ) → CallFault format s room n → of_call n ≡ true
  call-only n (CallFault.no_format h) = let k = format-known format f e in absurd (⊎_elim (λ z. omega (arith, k.0)) (λ z. omega (arith, z, k.1)) h)
  call-only n (CallFault.in_frame g h x) = or_left _ _ (frame-only true g s n x)
  call-only n (CallFault.too_little_room g h x) = refl

  pub room-fails : Fails (CallFault format s room) (10, leb (core_octets (type_in f (bits s))) room)
  room-fails = ((λ h. CallFault.too_little_room f e (leb-false _ _ h)), back)
    where
      back : CallFault format s room 10 → leb (core_octets (type_in f (bits s))) room ≡ false
      back (CallFault.in_frame g h x) = elim x [ ]
      back (CallFault.too_little_room g h x) =
          let same : g ≡ f = cc in lt-leb _ _ (subst (λ h. room < core_octets (type_in h (bits s))) same x)

  abbrev call_tests : List (ℕ × Bool)
  call_tests = tests true f s ++ ((10, leb (core_octets (type_in f (bits s))) room) ∷ [])

  call-chain : read_call format s room ≡ judge call_tests (frame_in f (bits s), core_octets (type_in f (bits s)))
  unfolding read_call read_with frame_in
  call-chain =
      ap (λ f. and_then f (λ f. and_then (read_with true f s) (λ y. into_buffer y.0 room))) e
      ∙ judge-then (tests true f s) ((10, leb (core_octets (type_in f (bits s))) room) ∷ []) (frame_in f (bits s), octets f (type_in f (bits s)))
      (frame_in f (bits s), core_octets (type_in f (bits s))) (λ y. into_buffer y.0 room) refl

  known-call : (n : ℕ) → Octets s → (read_call format s room ≡ refused n) ↔ FirstOf (CallFault format s room) refusal_order n
  known-call n o =
      let fault = CallFault format s room in
      let d = tests-decide true f s o fault (λ n l m. (call-frame n m, (λ x. CallFault.in_frame f e x))) _ (also fault _ [] room-fails Decides.none) in
      let r = refuses-first fault of_call call-only refusal_order call_tests (frame_in f (bits s), core_octets (type_in f (bits s))) n refl d in
      ((λ h. r.0 (sym call-chain ∙ h)), (λ x. call-chain ∙ r.1 x))

pub refuses-calls : RefusesCalls read_call
unfolding read_call
refuses-calls = record { exactly = λ format s room n o. by_format format s room n o (format_numbered format) refl }
  where
    by_format : (format : ℕ) (s : List ℕ) (room n : ℕ) → Octets s → (x : Outcome Format) → format_numbered format ≡ x
        → (read_call format s room ≡ refused n) ↔ FirstOf (CallFault format s room) refusal_order n
    by_format format s room n o (ok f) e = known-call format s room f e n o
    by_format format s room n o (refused m) e =
        let fault = CallFault format s room in
        let r : (◌≡◌ {A = Outcome (Frame × ℕ)} (refused 11) (refused n)) ↔ FirstOf (CallFault format s room) refusal_order n =
        refuses-head fault 11 _ n (CallFault.no_format (format-unknown format m e)) in
        let c : read_call format s room ≡ refused 11 = ap (λ f. and_then f (λ f. and_then (read_with true f s) (λ y. into_buffer y.0 room))) (format-11 format m e) in
        ((λ h. r.0 (sym c ∙ h)), (λ x. c ∙ r.1 x))

-- ---- building

module _ (f : Format) (t q i r : ℕ) (c : List ℕ) (room : ℕ) where
  abbrev fault : ℕ → Type 0
  fault = BuildFault f t q i r c room

  abbrev numbers_good : Bool
  numbers_good = leb t 15 && (leb q 1 && (not (known t) || eqb (length c) (core_octets t)))

  numbers-fail : Fails (BuildFault f t q i r c room) (11, numbers_good)
  numbers-fail = (fails, λ x. false_from_ne_true _ (passes x))
    where
      fails : numbers_good ≡ false → BuildFault f t q i r c room 11
      fails h =
          ⊎_elim (λ e. BuildFault.type_above (leb-false t 15 e))
          (λ h. ⊎_elim (λ e. BuildFault.quality_above (leb-false q 1 e))
          (λ h. let p = or_parts _ _ h in BuildFault.another_length
          (λ z. let k = (reserved-known t (omega (arith, z.1))).1 z in absurd (true≢false (sym (not-false _ p.0) ∙ k))) (eqb-false _ _ p.1))
          (and_cases _ _ h)) (and_cases _ _ h)

      passes : BuildFault f t q i r c room 11 → numbers_good ≡ true → ⊥
      passes (BuildFault.type_above a) h = omega (arith, a, leb-true t 15 (and_left _ _ h))
      passes (BuildFault.quality_above a) h = omega (arith, a, leb-true q 1 (and_left _ _ (and_right (leb t 15) _ h)))
      passes (BuildFault.another_length z l) h =
          let k : known t ≡ true = true_from_ne_false _ (λ e. z ((reserved-known t (omega (arith, leb-true t 15 (and_left _ _ h)))).0 e)) in
          l (eqb-true _ _ (given (known t) _ (and_right (leb q 1) _ (and_right (leb t 15) _ h)) k))

  type-refused : t ≤ 15 → Fails (BuildFault f t q i r c room) (2, known t)
  type-refused h = ((λ e. BuildFault.reserved_type ((reserved-known t (omega (arith, h))).0 e)), back)
    where
      back : BuildFault f t q i r c room 2 → known t ≡ false
      back (BuildFault.reserved_type z) = (reserved-known t (omega (arith, h))).1 z

  fill-refused : Fails (BuildFault f t q i r c room) (5, core_fill_clear t c)
  fill-refused = ((λ e. let z = one-from (core_bits t) (8 * length c - core_bits t) (bits c) e in BuildFault.filling_bit z.0 z.1 (omega (arith, z.1, z.2)) z.3), (λ x. false_from_ne_true _ (passes x)))
    where
      passes : BuildFault f t q i r c room 5 → core_fill_clear t c ≡ true → ⊥
      passes (BuildFault.filling_bit j l m o) h = none-from (core_bits t) (8 * length c - core_bits t) (bits c) j h l (omega (arith, l, m)) o

  fields-refused : Fails (BuildFault f t q i r c room) (6, fields_good f (frame_of t q i r c))
  fields-refused = ((λ h. BuildFault.field ((fields-fail f (frame_of t q i r c)).0 h)), back)
    where
      back : BuildFault f t q i r c room 6 → fields_good f (frame_of t q i r c) ≡ false
      back (BuildFault.field x) = (fields-fail f (frame_of t q i r c)).1 x

  pub room-refused : Fails (BuildFault f t q i r c room) (10, leb (octets f t) room)
  room-refused = ((λ h. BuildFault.too_little_room (leb-false _ _ h)), back)
    where
      back : BuildFault f t q i r c room 10 → leb (octets f t) room ≡ false
      back (BuildFault.too_little_room x) = lt-leb _ _ x

  abbrev build_tests : List (ℕ × Bool)
  build_tests =
      (11, numbers_good) ∷ (2, known t) ∷ (5, core_fill_clear t c) ∷ (6, fields_good f (frame_of t q i r c)) ∷ (10, leb (octets f t) room) ∷ []

  abbrev of_building : ℕ → Bool
  of_building n = eqb n 11 || (eqb n 2 || (eqb n 5 || (eqb n 6 || eqb n 10)))

  build-only : (n : ℕ) → BuildFault f t q i r c room n → of_building n ≡ true
  build-only n (BuildFault.type_above a) = refl
  build-only n (BuildFault.quality_above a) = refl
  build-only n (BuildFault.another_length z l) = refl
  build-only n (BuildFault.reserved_type z) = refl
  build-only n (BuildFault.filling_bit j l m o) = refl
  build-only n (BuildFault.field x) = refl
  build-only n (BuildFault.too_little_room x) = refl

  -- a type above 15 is not known either, but 11 comes first
  build-decides : Decides (BuildFault f t q i r c room) build_tests
  build-decides =
      Decides.test numbers-fail (λ h.
      also fault _ _ (type-refused (leb-true t 15 (and_left _ _ h)))
      (also fault _ _ fill-refused
      (also fault _ _ fields-refused
      (also fault _ _ room-refused Decides.none))))

  build-chain : build_frame f t q i r c room ≡ judge build_tests (layout f (frame_of t q i r c))
  unfolding build_check
  build-chain = judge-then build_tests [] (frame_of t q i r c, octets f t) (layout f (frame_of t q i r c)) (λ y. ok (layout f y.0)) refl

  build-refused : (n : ℕ) → (build_frame f t q i r c room ≡ refused n) ↔ FirstOf (BuildFault f t q i r c room) refusal_order n
  build-refused n =
      let z = refuses-first fault of_building build-only refusal_order build_tests (layout f (frame_of t q i r c)) n refl build-decides in
      ((λ h. z.0 (sym build-chain ∙ h)), (λ x. build-chain ∙ z.1 x))

pub refuses-builds : RefusesBuilds build_frame
refuses-builds = record { exactly = λ f t q i r c room n o. build-refused f t q i r c room n }
