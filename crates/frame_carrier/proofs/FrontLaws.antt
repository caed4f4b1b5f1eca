-- The octets in front of the core: each is the window of the frame's bits at its place. Assumes nothing.
use mathlib.Core.Path.{◌≡◌, refl, sym, ap, ap₂, ◌∙◌, subst}
use mathlib.Core.Bool.{Bool, true, false, not, ◌||◌, cond}
use mathlib.Core.Logic.{◌≢◌}
use mathlib.Core.List.{List, [], ◌∷◌, ◌++◌, append-nil}
use Prim.Native.Nat.{ℕ, ◌+◌, ◌-◌, ◌*◌, ◌/◌, ◌^◌, ◌<◌, ◌≤◌}
use native.Mathlib.Nat.{mod-eq_of_lt}
use native.Mathlib.Omega.{arith}
use lib.Dec.{eqb, leb}
use lib.ListN.{length, take, drop, get_or, set, length-append, length-take}
use lib.Seq.{drop_at}
use borrow.Author.Tests.{leb-true, le-leb, lt-leb, eqb-true}
use Rattle.std.proofs.lemmas.List.{nil_from_length}
use Rattle.bits.specs.Bits.{odd, digits, num, bits, packs, pack, octets_for, Octets}
use Rattle.bits.proofs.BitLaws.{num-lt, num-digits, num_front, num-append, octet_field}
use Rattle.bits.proofs.Tests.{or_else, given, every_below_lem}
use Rattle.definitions.specs.Frames.{Format, if1, if2, storage, Frame, frame_by, known, core_bits, octets, modes_and_crc, header, layout, quality_in, type_in, frame_in}
use Rattle.definitions.specs.Claims.{Valid, Begins}
use Rattle.definitions.proofs.Tables.{sized, known-below}
use Rattle.definitions.proofs.Frames.{judged, begins-read}
use Rattle.recordings.specs.Conversion.{with_modes, without_modes, carried}
use Rattle.frame_writer.proofs.WriterLaws.{first_bits}
use Rattle.core_mover.specs.Carriable.{core_at, behind, Carriable, CoreMoved}
use Rattle.frame_carrier.proofs.CarryLaws.{frame_bits, layout-packs, joined}
use Rattle.core_mover.proofs.CoreLaws.{sizes, aligned_header, source_long, whole-stream}

-- ---- numbers of joined bits

five_then : (a b c d e : Bool) (l : List Bool) → num 8 (a ∷ b ∷ c ∷ d ∷ e ∷ l) ≡ num 5 (a ∷ b ∷ c ∷ d ∷ e ∷ []) * 8 + num 3 l
unfolding num
five_then a b c d e l = omega arith

-- ---- each format's first octets

module _ (t q o : ℕ) (lo : o < 256) where
  -- the first octet of IF1 and storage format
  first-whole : (l : List Bool) (f : Format) → digits 8 o ≡ first_bits f t q → num 8 (first_bits f t q ++ l) ≡ o
  first-whole l f e = ap (λ b. num 8 (b ++ l)) (sym e) ∙ num_front 8 o l lo

  -- that of IF2, filled up by the bits behind the header
  first-filled : (l : List Bool) (v : ℕ) → digits 8 o ≡ first_bits if2 t q → v ≡ num 3 l → num 8 ((digits 4 t ++ digits 1 q) ++ l) ≡ o + v
  unfolding digits
  first-filled l v e ev =
      let a = five_then (odd (t / 2 ^ 3)) (odd (t / 2 ^ 2)) (odd (t / 2 ^ 1)) (odd (t / 2 ^ 0)) (odd (q / 2 ^ 0)) l in
      let b = five_then (odd (t / 2 ^ 3)) (odd (t / 2 ^ 2)) (odd (t / 2 ^ 1)) (odd (t / 2 ^ 0)) (odd (q / 2 ^ 0)) (digits 3 0) in
      let c : num 8 (first_bits if2 t q) ≡ o = ap (num 8) (sym (append-nil (first_bits if2 t q))) ∙ first-whole [] if2 e in
      let d : num 3 (digits 3 0) ≡ 0 = num-digits 3 0 in
      omega (arith, a, b, c, d, ev)

-- ---- the frame at the source's front

pub front_fields : (f : Format) (src : List ℕ) (x : Frame) (n : ℕ) → Begins f src x n → (type_in f (bits src) ≡ x.type) × (quality_in f (bits src) ≡ x.quality)
unfolding frame_in
front_fields f src x n b =
    let j = judged false f src (x, n) (begins-read false f src x n b refl) in
    (ap (λ (y : Frame × ℕ). y.0.type) j.shown, ap (λ (y : Frame × ℕ). y.0.quality) j.shown)

-- the target's first octet, written behind all others
module _ (g : Format) (y : Frame) (out : List ℕ) (o : ℕ) (k : known y.type ≡ true) (l : length y.core ≡ core_bits y.type)
    (e : o ≡ num 8 (frame_bits g y)) where
  head-packs : o ∷ [] ≡ packs 1 (frame_bits g y)
  unfolding packs
  head-packs = ap (λ n. n ∷ []) e

  set_first : (d : List ℕ) → 1 ≤ length d → set d 0 o ≡ o ∷ drop 1 d
  set_first [] h = absurd (omega arith)
  set_first (x ∷ d) h = refl

  pub one_octet : octets g y.type ≡ 1 → 1 ≤ length out → set out 0 o ≡ layout g y ++ drop (octets g y.type) out
  unfolding packs
  one_octet n h =
      set_first out h ∙ sym (ap₂ (λ w m. w ++ drop m out) (layout-packs g y k l ∙ ap (λ m. packs m (frame_bits g y)) n ∙ sym head-packs) n)

  pub first-set : (d : List ℕ) (m : ℕ) → octets g y.type ≡ 1 + m → 1 ≤ length out
      → d ≡ take 1 out ++ (packs m (drop (8 * 1) (frame_bits g y)) ++ drop (octets g y.type) out)
      → set d 0 o ≡ layout g y ++ drop (octets g y.type) out
  first-set d m n h ed =
      let r = packs m (drop (8 * 1) (frame_bits g y)) ++ drop (octets g y.type) out in
      let s : length (take 1 out) ≡ 1 = omega (arith, length-take 1 out) in
      set_first d (omega (arith, ap length ed, length-append (take 1 out) r))
      ∙ ap (λ t. o ∷ t) (ap (drop 1) ed ∙ drop_at (take 1 out) r 1 s)
      ∙ joined g y 1 m (o ∷ []) (drop (octets g y.type) out) k l n head-packs

module _ (f g : Format) (r : ℕ) (src out : List ℕ) (x : Frame) (c : Carriable f g src x out) where
  valid : Valid f x
  valid = c.begins.valid

  some-room : 1 ≤ length out
  some-room = omega (arith, c.room, (sized g x.type valid.type_known).some-octet)

-- types 14 and 15: the first octet is the frame
no_core : (t : ℕ) → known t ≡ true → 9 < t → core_bits t ≡ 0
unfolding known core_bits
no_core t k h =
    eqb-true _ _ (or_else (leb t 9) (eqb (core_bits t) 0) (given (known t) _ (every_below_lem 16 (λ t. not (known t) || (leb t 9 || eqb (core_bits t) 0)) refl t (known-below t k)) k) (lt-leb t 9 h))

one_each : (g : Format) (t : ℕ) → known t ≡ true → 9 < t → octets g t ≡ 1
unfolding known octets
one_each if1 t k h =
    eqb-true _ _ (or_else (leb t 9) (eqb (octets if1 t) 1) (given (known t) _ (every_below_lem 16 (λ t. not (known t) || (leb t 9 || eqb (octets if1 t) 1)) refl t (known-below t k)) k) (lt-leb t 9 h))
one_each if2 t k h =
    eqb-true _ _ (or_else (leb t 9) (eqb (octets if2 t) 1) (given (known t) _ (every_below_lem 16 (λ t. not (known t) || (leb t 9 || eqb (octets if2 t) 1)) refl t (known-below t k)) k) (lt-leb t 9 h))
one_each storage t k h =
    eqb-true _ _ (or_else (leb t 9) (eqb (octets storage t) 1) (given (known t) _ (every_below_lem 16 (λ t. not (known t) || (leb t 9 || eqb (octets storage t) 1)) refl t (known-below t k)) k) (lt-leb t 9 h))

pub carry_none : (f g : Format) (r : ℕ) (src out : List ℕ) (x : Frame) (o : ℕ) → Carriable f g src x out → 9 < x.type → o < 256
    → digits 8 o ≡ first_bits g x.type x.quality → set out 0 o ≡ layout g (carried g f r x) ++ drop (octets g x.type) out
unfolding header digits num
carry_none if1 if1 r src out x o c h lo e = absurd (c.others refl)
carry_none if2 if1 r src out x o c h lo e =
    one_octet if1 (with_modes r x) out o (valid if2 if1 r src out x c).type_known (valid if2 if1 r src out x c).core_length
    (sym (ap (λ b. num 8 ((digits 4 x.type ++ (digits 1 x.quality ++ (digits 3 0 ++ modes_and_crc b (with_modes r x)))) ++ x.core)) (lt-leb x.type 9 h)
    ∙ first-whole x.type x.quality o lo x.core if1 e))
    (one_each if1 x.type (valid if2 if1 r src out x c).type_known h) (some-room if2 if1 r src out x c)
carry_none storage if1 r src out x o c h lo e =
    one_octet if1 (with_modes r x) out o (valid storage if1 r src out x c).type_known (valid storage if1 r src out x c).core_length
    (sym (ap (λ b. num 8 ((digits 4 x.type ++ (digits 1 x.quality ++ (digits 3 0 ++ modes_and_crc b (with_modes r x)))) ++ x.core)) (lt-leb x.type 9 h)
    ∙ first-whole x.type x.quality o lo x.core if1 e))
    (one_each if1 x.type (valid storage if1 r src out x c).type_known h) (some-room storage if1 r src out x c)
carry_none f if2 r src out x o c h lo e =
    let v = valid f if2 r src out x c in
    let n = nil_from_length x.core (v.core_length ∙ no_core x.type v.type_known h) in
    one_octet if2 (without_modes x) out o v.type_known v.core_length
    (sym (first-filled x.type x.quality o lo x.core 0 e (sym (ap (num 3) n)) ∙ (let z : o + 0 ≡ o = omega arith in z)))
    (one_each if2 x.type v.type_known h) (some-room f if2 r src out x c)
carry_none f storage r src out x o c h lo e =
    let v = valid f storage r src out x c in
    one_octet storage (without_modes x) out o v.type_known v.core_length (sym (first-whole x.type x.quality o lo x.core storage e))
    (one_each storage x.type v.type_known h) (some-room f storage r src out x c)

-- types 0 to 9: what was moved, with the first octet
pub carry_storage : (f : Format) (r : ℕ) (src out : List ℕ) (x : Frame) (o : ℕ) (d : List ℕ) → Carriable f storage src x out → x.type ≤ 9 → o < 256
    → digits 8 o ≡ first_bits storage x.type x.quality
    → d ≡ take 1 out ++ (packs (octets storage x.type - 1) x.core ++ drop (octets storage x.type) out)
    → set d 0 o ≡ layout storage (without_modes x) ++ drop (octets storage x.type) out
unfolding header digits
carry_storage f r src out x o d c h lo e ed =
    let v = valid f storage r src out x c in
    first-set storage (without_modes x) out o v.type_known v.core_length (sym (first-whole x.type x.quality o lo x.core storage e)) d
    (octets storage x.type - 1) (omega (arith, (sizes x.type h).in_storage)) (some-room f storage r src out x c) ed

pub carry_if2 : (f : Format) (r : ℕ) (src out : List ℕ) (x : Frame) (o i y : ℕ) (d : List ℕ) → Octets src → Carriable f if2 src x out → x.type ≤ 9 → o < 256
    → digits 8 o ≡ first_bits if2 x.type x.quality → i ≡ core_at f → y ≡ get_or src i 0
    → d ≡ take 1 out ++ (packs (octets if2 x.type - 1) (drop 3 x.core) ++ drop (octets if2 x.type) out)
    → set d 0 (o + y / 2 ^ 5) ≡ layout if2 (without_modes x) ++ drop (octets if2 x.type) out
unfolding header digits
carry_if2 f r src out x o i y d os c h lo e ei ey ed =
    let v = valid f if2 r src out x c in
    let t = x.type in
    let z = sizes t h in
    let a = aligned_header f t c.others h in
    let long : core_at f < length src = omega (arith, a.1, source_long f if2 t src out x h refl c, z.some) in
    let top : y / 2 ^ 5 ≡ num 3 x.core =
    ap (λ n. n / 2 ^ 5) (ey ∙ ap (λ j. get_or src j 0) ei)
    ∙ sym (mod-eq_of_lt (let b : get_or src (core_at f) 0 / 2 ^ 5 < 2 ^ 3 = omega (arith, os (core_at f)) in b))
    ∙ sym (octet_field (core_at f) 0 3 5 src long refl)
    ∙ ap (λ k. num 3 (drop k (bits src))) (let q : 8 * core_at f + 0 ≡ 8 * core_at f = omega arith in q)
    ∙ ap (num 3) (whole-stream f if2 t src out x h refl c c.others)
    ∙ num-append 3 x.core _ (omega (arith, v.core_length, z.three)) in
    first-set if2 (without_modes x) out (o + y / 2 ^ 5) v.type_known v.core_length
    (sym (first-filled t x.quality o lo x.core (y / 2 ^ 5) e top)) d
    (octets if2 t - 1) (omega (arith, z.some, z.in_if2, z.one)) (some-room f if2 r src out x c) ed

-- towards IF1 the packed core stands behind three octets
carry_if1 : (f : Format) (src out : List ℕ) (x : Frame) (d : List ℕ) → Carriable f if1 src x out → x.type ≤ 9
    → d ≡ take 3 out ++ (packs (octets if1 x.type - 3) x.core ++ drop (octets if1 x.type) out)
    → (length (take 3 out) ≡ 3) × (d ≡ take 3 out ++ (pack x.core ++ drop (octets if1 x.type) out))
unfolding pack
carry_if1 f src out x d c h ed =
    let z = sizes x.type h in
    let m : octets if1 x.type - 3 ≡ octets_for (length x.core) = omega (arith, z.in_if1) ∙ ap octets_for (sym c.begins.valid.core_length) in
    (omega (arith, length-take 3 out, c.room, z.in_if1), ed ∙ ap (λ n. take 3 out ++ (packs n x.core ++ drop (octets if1 x.type) out)) m)

pub indication_small : (t : ℕ) → t ≤ 9 → cond (leb t 8) t 0 ≤ 8
indication_small t h = go (leb t 8) refl
  where
    go : (b : Bool) → leb t 8 ≡ b → cond (leb t 8) t 0 ≤ 8
    go true e = rw e (leb-true _ _ e)
    go false e = rw e (omega arith)

-- the frame's room, by its type
pub space : (f g : Format) (src out : List ℕ) (x : Frame) → Carriable f g src x out → (1 ≤ length src) × (1 ≤ length out) × (x.type < 16) × (x.quality < 2)
space f g src out x c =
    let v = c.begins.valid in
    let a = (sized f x.type v.type_known).some-octet in
    let b = (sized g x.type v.type_known).some-octet in
    (omega (arith, ap length c.begins.laid, c.begins.size, length-take (octets f x.type) src), omega (arith, c.room), known-below x.type v.type_known, omega (arith, v.quality_bit))

-- the type and the quality that the code reads there
pub record Fronts (x : Frame) (t q : ℕ) : Type 0 where
  pub type_is : t ≡ x.type
  pub quality_is : q ≡ x.quality
  pub small : (t < 16) × (q < 2)

pub fronts : (f g : Format) (src out : List ℕ) (x : Frame) (t q : ℕ) → Carriable f g src x out → t ≡ type_in f (bits src) → q ≡ quality_in f (bits src) → Fronts x t q
fronts f g src out x t q c et eq =
    let ff = front_fields f src x (octets f x.type) c.begins in
    let s = space f g src out x c in
    record { type_is = et ∙ ff.0; quality_is = eq ∙ ff.1; small = (omega (arith, et, ff.0, s.2), omega (arith, eq, ff.1, s.3)) }

-- ---- by the code's numbers: the type t, the quality q, the first octet o, and d after the core was moved

carried_if1 : (f : Format) (r : ℕ) (x : Frame) → f ≢ if1 → carried if1 f r x ≡ with_modes r x
carried_if1 if1 r x n = absurd (n refl)
carried_if1 if2 r x n = refl
carried_if1 storage r x n = refl

module _ (f : Format) (r : ℕ) (src out d : List ℕ) (x : Frame) (t q o : ℕ) (et : t ≡ x.type) (eq : q ≡ x.quality) (lo : o < 256) where
  first-there : (g : Format) → digits 8 o ≡ first_bits g t q → digits 8 o ≡ first_bits g x.type x.quality
  first-there g e = e ∙ ap₂ (first_bits g) et eq

  pub done_none : (g : Format) → Carriable f g src x out → 9 < t → digits 8 o ≡ first_bits g t q
      → set out 0 o ≡ layout g (carried g f r x) ++ drop (octets g x.type) out
  done_none g c h e = carry_none f g r src out x o c (omega arith) lo (first-there g e)

  moved-there : (g : Format) → Carriable f g src x out → CoreMoved f g t src out d
      → d ≡ take (core_at g) out ++ (packs (octets g x.type - core_at g) (behind g x.core) ++ drop (octets g x.type) out)
  moved-there g c m = m x (sym et) c ∙ ap (λ t. take (core_at g) out ++ (packs (octets g t - core_at g) (behind g x.core) ++ drop (octets g t) out)) et

  pub done_storage : (g : Format) → g ≡ storage → Carriable f g src x out → t ≤ 9 → digits 8 o ≡ first_bits g t q → CoreMoved f g t src out d
      → set d 0 o ≡ layout g (carried g f r x) ++ drop (octets g x.type) out
  done_storage g eg c h e m =
      subst (λ g. Carriable f g src x out → digits 8 o ≡ first_bits g t q → CoreMoved f g t src out d → set d 0 o ≡ layout g (carried g f r x) ++ drop (octets g x.type) out)
      (sym eg) (λ c e m. carry_storage f r src out x o d c (omega arith) lo (first-there storage e) (moved-there storage c m)) c e m

  pub done_if2 : (g : Format) (i y : ℕ) → Octets src → g ≡ if2 → Carriable f g src x out → t ≤ 9 → digits 8 o ≡ first_bits g t q → i ≡ core_at f → y ≡ get_or src i 0
      → CoreMoved f g t src out d → set d 0 (o + y / 2 ^ 5) ≡ layout g (carried g f r x) ++ drop (octets g x.type) out
  done_if2 g i y os eg c h e ei ey m =
      subst (λ g. Carriable f g src x out → digits 8 o ≡ first_bits g t q → CoreMoved f g t src out d
      → set d 0 (o + y / 2 ^ 5) ≡ layout g (carried g f r x) ++ drop (octets g x.type) out)
      (sym eg) (λ c e m. carry_if2 f r src out x o i y d os c (omega arith) lo (first-there if2 e) ei ey (moved-there if2 c m)) c e m

  -- what the three octets are put in front of, and by what
  pub done_if1 : (g : Format) (i : ℕ) (w : List ℕ) → g ≡ if1 → Carriable f g src x out → t ≤ 9 → i ≡ cond (leb t 8) t 0 → CoreMoved f g t src out d
      → ((front rest : List ℕ) (core : List Bool) → length front ≡ 3 → length core ≡ core_bits t → d ≡ front ++ (pack core ++ rest)
      → w ≡ layout if1 (frame_by t q i r core) ++ rest)
      → w ≡ layout g (carried g f r x) ++ drop (octets g x.type) out
  done_if1 g i w eg c h ei m put =
      subst (λ g. Carriable f g src x out → CoreMoved f g t src out d → w ≡ layout g (carried g f r x) ++ drop (octets g x.type) out) (sym eg)
      (λ c m.
      let a = carry_if1 f src out x d c (omega arith) (moved-there if1 c m) in
      let z : cond (leb x.type 9) r 0 ≡ r = ap (λ b. cond b r 0) (le-leb x.type 9 (omega arith)) in
      let y : frame_by t q i r x.core ≡ with_modes r x =
      ap₂ (λ t q. frame_by t q i r x.core) et eq
      ∙ ap₂ (λ i r. frame_by x.type x.quality i r x.core) (ei ∙ ap (λ t. cond (leb t 8) t 0) et) (sym z) in
      put (take 3 out) (drop (octets if1 x.type) out) x.core a.0 (c.begins.valid.core_length ∙ ap core_bits (sym et)) a.1
      ∙ ap (λ y. layout if1 y ++ drop (octets if1 x.type) out) (y ∙ sym (carried_if1 f r x c.others))) c m

-- the room behind the movers
pub if1_room : (f g : Format) (src out : List ℕ) (x : Frame) (t : ℕ) → g ≡ if1 → Carriable f g src x out → t ≡ x.type → octets if1 t ≤ length out
if1_room f g src out x t eg c et =
    let e : octets g x.type ≡ octets if1 t = ap₂ octets eg (sym et) in
    omega (arith, c.room)

pub first_small : (t q o : ℕ) (g : Format) → o < 256 → digits 8 o ≡ first_bits g t q → g ≡ if2 → o ≤ 248
unfolding digits
first_small t q o g lo e eg =
    let d : digits 8 o ≡ first_bits if2 t q = subst (λ g. digits 8 o ≡ first_bits g t q) eg e in
    let h : List Bool = odd (t / 2 ^ 3) ∷ odd (t / 2 ^ 2) ∷ odd (t / 2 ^ 1) ∷ odd (t / 2 ^ 0) ∷ odd (q / 2 ^ 0) ∷ [] in
    let b = five_then (odd (t / 2 ^ 3)) (odd (t / 2 ^ 2)) (odd (t / 2 ^ 1)) (odd (t / 2 ^ 0)) (odd (q / 2 ^ 0)) (digits 3 0) in
    let c : num 8 (first_bits if2 t q) ≡ o = ap (num 8) (sym (append-nil (first_bits if2 t q))) ∙ first-whole t q o lo [] if2 d in
    omega (arith, b, c, num-digits 3 0, num-lt 5 h)

pub core_in_lem : (f g : Format) (src out : List ℕ) (x : Frame) (t i : ℕ) → g ≡ if2 → Carriable f g src x out → t ≡ x.type → t ≤ 9 → i ≡ core_at f → i < length src
core_in_lem f g src out x t i eg c et h ei =
    let a = aligned_header f t (λ e. c.others (e ∙ sym eg)) h in
    let l = source_long f g t src out x h (sym et) c in
    omega (arith, a.1, (sizes t h).some)
