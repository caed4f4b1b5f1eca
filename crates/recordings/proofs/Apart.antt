-- Two valid IF1 recordings that differ only in Class A and CRC of one frame have a frame of the same type there, each with its right CRC,
-- and these bits differ, as no others do: so they are apart by what is proved of the CRC. Assumes nothing.
use mathlib.Core.Path.{◌≡◌, refl, sym, ap, ap₂, ◌∙◌, subst, subst₂}
use mathlib.Core.Logic.{◌≢◌}
use mathlib.Core.Bool.{Bool, true, false, cond}
use mathlib.Core.List.{List, [], ◌∷◌, ◌++◌, append_assoc}
use Prim.Native.Nat.{ℕ, ◌+◌, ◌*◌, ◌≤◌}
use native.Mathlib.Nat.{add-zero}
use native.Mathlib.Omega.{arith}
use lib.Dec.{leb}
use lib.ListN.{length, take, drop, length-append, length-drop, take-append-drop}
use lib.Seq.{take_at, drop_at, take-take, take-add, drop-drop, length-take-le}
use borrow.Author.Tests.{eqb-true}
use Rattle.bits.specs.Bits.{Octets, num, bits, octets_for}
use Rattle.bits.proofs.BitLaws.{num-within, digits-num-le, length-bits, bits-take, bits-drop, bits-injective, octets-take, octets-drop, octets-append}
use Rattle.bits.proofs.Tests.{given}
use Rattle.parity.specs.Crc.{crc}
use Rattle.parity.specs.Places.{guarded}
use Rattle.parity.specs.Claims.{Apart}
use Rattle.parity.proofs.Guarded.{frames-differ}
use Rattle.definitions.specs.Outcome.{ok}
use Rattle.definitions.specs.Frames.{Format, if1, Frame, core_bits, class_a, octets, layout, core_in, crc_good}
use Rattle.definitions.specs.Reading.{read_frame}
use Rattle.definitions.specs.Claims.{Valid}
use Rattle.definitions.proofs.Tables.{sized, class_a_within}
use Rattle.definitions.proofs.Frames.{read-layout, type-frame, judged, read_known}
use Rattle.definitions.proofs.Claims.{layouts-differ}
use Rattle.recordings.specs.Recordings.{layouts, write_recording}
use Rattle.recordings.specs.Claims.{Every, none, first}
use Rattle.recordings.proofs.Claims.{reads_recordings}
use Rattle.recordings.specs.ConversionClaims.{ValidRecording}
use Rattle.recordings.specs.Demand3.{OnlyGuardedDiffer, guarded_bits, guarded_at}
use Rattle.recordings.proofs.Trips.{octets-layouts}

-- ---- the frame that begins at an octet

layouts-append : (f : Format) (xs ys : List Frame) → layouts f (xs ++ ys) ≡ layouts f xs ++ layouts f ys
layouts-append f [] ys = refl
layouts-append f (x ∷ xs) ys =
    ap (λ l. layout f x ++ l) (layouts-append f xs ys) ∙ sym (append_assoc (layout f x) (layouts f xs) (layouts f ys))

every_append : (P : Frame → Type 0) (xs ys : List Frame) → Every P (xs ++ ys) → Every P xs × Every P ys
every_append P [] ys e = (none, e)
every_append P (x ∷ xs) ys (first p e) = let q = every_append P xs ys e in (first p q.0, q.1)

-- valid frames of which the first are laid out as others are: behind these a frame is read
read_behind : (f : Format) (front ys : List Frame) (s : List ℕ) → Every (Valid f) front → Every (Valid f) ys → Octets s → 1 ≤ length s
    → layouts f ys ≡ layouts f front ++ s → (y : Frame) × (read_frame f s ≡ ok (y, octets f y.type))
read_behind f front [] s us none o l e = absurd (omega (arith, ap length e, length-append (layouts f front) s))
read_behind f [] (y ∷ ys) s none (first v vs) o l e = (y, ap (read_frame f) (sym e) ∙ read-layout false f y (layouts f ys) v refl)
read_behind f (x ∷ front) (y ∷ ys) s (first u us) (first v vs) o l e =
    read_behind f front ys s us vs o l
    (layouts-differ.prefix_free f y x (layouts f ys) (layouts f front ++ s) v u (octets-layouts f ys)
    (octets-append (layouts f front) s (octets-layouts f front) o) (e ∙ append_assoc (layout f x) (layouts f front) s)).1

-- ---- an IF1 frame that was read

module _ (s : List ℕ) (x : Frame) (n : ℕ) (h : read_frame if1 s ≡ ok (x, n)) where
  type-read : num 4 (bits s) ≡ x.type
  type-read = sym (type-frame if1 (bits s)) ∙ ap (λ (y : Frame × ℕ). y.0.type) (judged false if1 s (x, n) h).shown

  -- CRC and Class A are there
  guarded-within : leb x.type 9 ≡ true → 24 + class_a x.type ≤ length (bits s)
  guarded-within c =
      let k = read_known false if1 s x n h in
      let p : octets if1 x.type ≡ octets_for (24 + core_bits x.type) =
      (sized if1 x.type k.0).packed ∙ ap (λ b. octets_for (cond b 24 8 + core_bits x.type)) c in
      omega (arith, length-bits s, k.1, (class_a_within x.type k.0).0)

  -- and the CRC is right
  crc-read : leb x.type 9 ≡ true → num 8 (drop 16 (bits s)) ≡ num 8 (crc (take (class_a x.type) (drop 24 (bits s))))
  unfolding crc_good
  crc-read c =
      let bs = bits s in
      let t = x.type in
      eqb-true _ _ (given (leb (num 4 bs) 9) _ (judged false if1 s (x, n) h).check (ap (λ u. leb u 9) type-read ∙ c))
      ∙ ap (λ u. num 8 (crc (take (class_a u) (core_in if1 u bs)))) type-read
      ∙ ap (λ b. num 8 (crc (take (class_a t) (take (core_bits t) (drop (cond b 24 8) bs))))) c
      ∙ ap (λ l. num 8 (crc l)) (take-take (class_a t) (core_bits t) (drop 24 bs) (class_a_within t (read_known false if1 s x n h).0).0)

-- ---- the guarded bits

-- behind a recording's first octets
guarded-drop : (p t : ℕ) (s : List ℕ) → guarded_at 0 t (drop p s) ≡ guarded_at p t s
guarded-drop p t s =
    ap (λ l. take (class_a t) (drop 24 l) ++ take 8 (drop 16 l)) (bits-drop p s)
    ∙ ap₂ (λ v w. take (class_a t) v ++ take 8 w) (drop-drop 24 (8 * p) (bits s)) (drop-drop 16 (8 * p) (bits s))

-- two frames of one type that were read, and whose guarded bits differ
frames-apart : (s s' : List ℕ) (x x' : Frame) (n n' : ℕ) → read_frame if1 s ≡ ok (x, n) → read_frame if1 s' ≡ ok (x', n') → x'.type ≡ x.type
    → leb x.type 9 ≡ true → guarded_at 0 x.type s ≢ guarded_at 0 x.type s' → Apart (guarded_at 0 x.type s) (guarded_at 0 x.type s')
frames-apart s s' x x' n n' h h' same c d =
    let t = x.type in
    let c' : leb x'.type 9 ≡ true = ap (λ u. leb u 9) same ∙ c in
    let l = guarded-within s x n h c in
    let l' = subst (λ u. 24 + class_a u ≤ length (bits s')) same (guarded-within s' x' n' h' c') in
    let e = word t s (omega arith) in
    let e' = word t s' (omega arith) in
    subst₂ Apart e e'
    (frames-differ.differ (class_a t) (drop 24 (bits s)) (drop 24 (bits s')) (num 8 (drop 16 (bits s))) (num 8 (drop 16 (bits s')))
    (omega (arith, (class_a_within t (read_known false if1 s x n h).0).1)) (omega (arith, length-drop 24 (bits s))) (omega (arith, length-drop 24 (bits s')))
    (crc-read s x n h c) (subst (λ u. num 8 (drop 16 (bits s')) ≡ num 8 (crc (take (class_a u) (drop 24 (bits s'))))) same (crc-read s' x' n' h' c'))
    (λ q. d (sym e ∙ q ∙ e')))
  where
    word : (t : ℕ) (z : List ℕ) → 24 ≤ length (bits z) → guarded (class_a t) (drop 24 (bits z)) (num 8 (drop 16 (bits z))) ≡ guarded_at 0 t z
    word t z l = ap (λ b. take (class_a t) (drop 24 (bits z)) ++ b) (digits-num-le 8 (drop 16 (bits z)) (omega (arith, length-drop 16 (bits z))))

-- bits by their parts: q bits, then 8, then n, and the rest
parts : (q m n : ℕ) (l : List Bool) → q + 8 ≡ m → l ≡ take q l ++ ((take 8 (drop q l) ++ take n (drop m l)) ++ drop (q + (8 + n)) l)
parts q m n l e =
    sym (take-append-drop q l)
    ∙ ap (λ r. take q l ++ r) (sym (take-append-drop (8 + n) (drop q l))
    ∙ ap₂ ◌++◌ (take-add 8 n (drop q l) ∙ ap (λ r. take 8 (drop q l) ++ take n r) (drop-drop 8 q l ∙ ap (λ k. drop k l) e)) (drop-drop (8 + n) q l))

append_parts : (p q r s : List Bool) → length p ≡ length r → p ++ q ≡ r ++ s → (p ≡ r) × (q ≡ s)
append_parts p q r s l e = (
  sym (take_at p q (length p) refl) ∙ ap (take (length p)) e ∙ take_at r s (length p) (sym l),
  sym (drop_at p q (length p) refl) ∙ ap (drop (length p)) e ∙ drop_at r s (length p) (sym l),
)

same_parts : (q m n : ℕ) (v w : List Bool) → q + 8 ≡ m → m + n ≤ length v → length v ≡ length w → take q v ≡ take q w
    → drop (q + (8 + n)) v ≡ drop (q + (8 + n)) w → take n (drop m v) ++ take 8 (drop q v) ≡ take n (drop m w) ++ take 8 (drop q w) → v ≡ w
same_parts q m n v w e h l front back middle =
    let size : (z : List Bool) → m + n ≤ length z → length (take n (drop m z)) ≡ n = λ z k. length-take-le n (drop m z) (omega (arith, length-drop m z)) in
    let g =
    append_parts (take n (drop m v)) (take 8 (drop q v)) (take n (drop m w)) (take 8 (drop q w)) (size v h ∙ sym (size w (omega arith))) middle in
    parts q m n v e ∙ ap₂ ◌++◌ front (ap₂ ◌++◌ (ap₂ ◌++◌ g.1 g.0) back) ∙ sym (parts q m n w e)

-- ---- the recordings

module _ (a b : List ℕ) (p t : ℕ) (oa : Octets a) (ob : Octets b) (d : OnlyGuardedDiffer p t a b) where
  same_front : take p a ≡ take p b
  same_front =
      let cut : (s : List ℕ) → bits (take p s) ≡ take (8 * p) (take (8 * p + 16) (bits s)) =
      λ s. bits-take p s ∙ sym (take-take (8 * p) (8 * p + 16) (bits s) (omega arith)) in
      bits-injective (take p a) (take p b) (octets-take p a oa) (octets-take p b ob) (cut a ∙ ap (take (8 * p)) d.in_front ∙ sym (cut b))

  same-type : num 4 (bits (drop p a)) ≡ num 4 (bits (drop p b))
  same-type =
      let cut : (s : List ℕ) → num 4 (bits (drop p s)) ≡ num 4 (drop (8 * p) (take (8 * p + 16) (bits s))) =
      λ s. ap (num 4) (bits-drop p s) ∙ sym (num-within 4 (8 * p) (8 * p + 16) (bits s) (omega arith)) in
      cut a ∙ ap (λ l. num 4 (drop (8 * p) l)) d.in_front ∙ sym (cut b)

  same-behind : (k : ℕ) → 8 * p + 16 + guarded_bits t ≡ k → drop k (bits a) ≡ drop k (bits b)
  same-behind k e = subst (λ k. drop k (bits a) ≡ drop k (bits b)) e d.behind

-- the frames x and y begin at octet p
recordings_apart : (a b : List ℕ) (p : ℕ) (x y : Frame) (n m : ℕ) → Octets a → Octets b → read_frame if1 (drop p a) ≡ ok (x, n)
    → read_frame if1 (drop p b) ≡ ok (y, m) → a ≢ b → OnlyGuardedDiffer p x.type a b → Apart (guarded_at p x.type a) (guarded_at p x.type b)
recordings_apart a b p x y n m oa ob hx hy ne d = go (leb x.type 9) refl
  where
    go : (c : Bool) → leb x.type 9 ≡ c → Apart (guarded_at p x.type a) (guarded_at p x.type b)
    go false e =
        let q = 8 * p + 16 in
        let behind = same-behind a b p x.type oa ob d q (ap (λ c. q + cond c (8 + class_a x.type) 0) e ∙ add-zero q) in
        absurd (ne (bits-injective a b oa ob (sym (take-append-drop q (bits a)) ∙ ap₂ ◌++◌ d.in_front behind ∙ take-append-drop q (bits b))))
    go true e =
        let q = 8 * p + 16 in
        let t = x.type in
        let same = sym (type-read (drop p b) y m hy) ∙ sym (same-type a b p t oa ob d) ∙ type-read (drop p a) x n hx in
        let behind = same-behind a b p t oa ob d (q + (8 + class_a t)) (ap (λ c. q + cond c (8 + class_a t) 0) e) in
        let within = guarded-within (drop p a) x n hx e in
        subst₂ Apart (guarded-drop p t a) (guarded-drop p t b)
        (frames-apart (drop p a) (drop p b) x y n m hx hy same e
        (λ g. ne (bits-injective a b oa ob
        (same_parts q (8 * p + 24) (class_a t) (bits a) (bits b) (omega arith)
        (omega (arith, length-bits (drop p a), length-drop p a, length-bits a)) (omega (arith, length-bits a, length-bits b, d.as_many))
        d.in_front behind (sym (guarded-drop p t a) ∙ g ∙ guarded-drop p t b)))))

every_first : {P : Frame → Type 0} {x : Frame} {xs : List Frame} → Every P (x ∷ xs) → P x
every_first (first p ps) = p

pub guarded-apart : (a b : List ℕ) (front : List Frame) (x : Frame) (rest ys : List Frame) → Octets a → Octets b
    → ValidRecording if1 a (front ++ (x ∷ rest)) → ValidRecording if1 b ys → a ≢ b → OnlyGuardedDiffer (length (layouts if1 front)) x.type a b
    → Apart (guarded_at (length (layouts if1 front)) x.type a) (guarded_at (length (layouts if1 front)) x.type b)
unfolding write_recording
guarded-apart a b front x rest ys oa ob ha hb ne d =
    let p = length (layouts if1 front) in
    let ra = (reads_recordings.exactly if1 a (front ++ (x ∷ rest)) oa).0 ha in
    let rb = (reads_recordings.exactly if1 b ys ob).0 hb in
    let vs = every_append (Valid if1) front (x ∷ rest) ra.valid in
    let laid : a ≡ layouts if1 front ++ layouts if1 (x ∷ rest) = ra.laid ∙ layouts-append if1 front (x ∷ rest) in
    let hx : read_frame if1 (drop (length (layouts if1 front)) a) ≡ ok (x, octets if1 x.type) =
    ap (read_frame if1) (ap (drop p) laid ∙ drop_at (layouts if1 front) (layouts if1 (x ∷ rest)) p refl)
    ∙ read-layout false if1 x (layouts if1 rest) (every_first vs.1) refl in
    let k = read_known false if1 (drop p a) x (octets if1 x.type) hx in
    let y =
    read_behind if1 front ys (drop p b) vs.0 rb.valid (octets-drop p b ob)
    (omega (arith, d.as_many, length-drop p a, length-drop p b, k.1, (sized if1 x.type k.0).some-octet))
    (sym rb.laid ∙ sym (take-append-drop p b) ∙ ap (λ l. l ++ drop p b)
    (sym (same_front a b p x.type oa ob d) ∙ ap (take p) laid ∙ take_at (layouts if1 front) (layouts if1 (x ∷ rest)) p refl)) in
    recordings_apart a b p x y.0 (octets if1 x.type) (octets if1 y.0.type) oa ob hx y.1 ne d
