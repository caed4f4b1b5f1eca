-- The sizes of a core in each format, and where the source's bits are the core and its zeros. Assumes nothing.
use mathlib.Core.Path.{◌≡◌, refl, sym, ap, ap₂, ◌∙◌, subst}
use mathlib.Core.Bool.{Bool, true, false, not, ◌&&◌}
use mathlib.Core.Logic.{◌≢◌}
use mathlib.Core.List.{List, [], ◌++◌, append-nil}
use Prim.Native.Nat.{ℕ, ◌+◌, ◌-◌, ◌*◌, ◌<◌, ◌≤◌}
use native.Mathlib.Omega.{arith}
use lib.Dec.{eqb, leb}
use lib.ListN.{length, take, drop, replicate, length-take, length-drop, take-append-drop, drop_of_length-le}
use borrow.Rule.Slice.PartMut.{put_mid}
use Rattle.std.proofs.lemmas.List.{take_rest}
use lib.Seq.{drop-drop, drop-append-le}
use borrow.Author.Tests.{eqb-true, leb-true, le-leb}
use Rattle.bits.specs.Bits.{bits, packs, one_if}
use Rattle.bits.proofs.BitLaws.{bits-drop}
use Rattle.bits.proofs.Tests.{and_left, and_right, every_below_lem}
use Rattle.definitions.specs.Frames.{Format, if1, if2, storage, Frame, known, core_bits, octets, core_octets, header_bits, fill_bits}
use Rattle.definitions.specs.Claims.{Begins}
use Rattle.definitions.proofs.Frames.{after-header, bits-layout}
use Rattle.frame.proofs.TableLaws.{room}
use Rattle.frame.specs.Answers.{format_of}
use Rattle.frame.specs.contracts.Format.{the_type}
use Rattle.frame.specs.declared.Format.{Format as CodeFormat}
use Rattle.frame.specs.declared.Format.TheVariants.{If1, If2, Storage}
use denote.Enum.Bare.{sameb}
use Rattle.core_mover.specs.Carriable.{core_at, behind, Ends, Carriable}

-- ---- whether a format is IF2, as `==` tells

pub if2_is : (f : CodeFormat) → sameb the_type f If2 ≡ true → format_of f ≡ if2
if2_is If1 e = cc
if2_is If2 e = refl
if2_is Storage e = cc

pub if2_not : (f : CodeFormat) → sameb the_type f If2 ≡ false → format_of f ≢ if2
if2_not If1 e = λ q. cc
if2_not If2 e = cc
if2_not Storage e = λ q. cc

-- ---- sizes

pub record Sizes (t : ℕ) : Type 0 where
  pub type_known : known t ≡ true
  pub three : 3 ≤ core_bits t
  pub some : 1 ≤ core_octets t
  pub few : core_octets t ≤ 60
  pub in_if1 : octets if1 t ≡ 3 + core_octets t
  pub in_storage : octets storage t ≡ 1 + core_octets t
  pub in_if2 : octets if2 t + one_if (eqb t 1) ≡ core_octets t + 1
  pub one : one_if (not (eqb t 1)) + one_if (eqb t 1) ≡ 1

one_of : (b : Bool) → one_if (not b) + one_if b ≡ 1
one_of true = refl
one_of false = refl

size_test : ℕ → Bool
size_test t =
    known t
    && (leb 3 (core_bits t)
    && (leb 1 (core_octets t)
    && (leb (core_octets t) 60
    && (eqb (octets if1 t) (3 + core_octets t)
    && (eqb (octets storage t) (1 + core_octets t) && eqb (octets if2 t + one_if (eqb t 1)) (core_octets t + 1))))))

size_tested : (t : ℕ) → t < 10 → size_test t ≡ true
unfolding size_test known core_bits octets
size_tested t h = every_below_lem 10 size_test refl t h

pub sizes : (t : ℕ) → t ≤ 9 → Sizes t
unfolding size_test
sizes t h =
    let a = size_tested t (omega arith) in
    let b = and_right (known t) _ a in
    let c = and_right (leb 3 (core_bits t)) _ b in
    let d = and_right (leb 1 (core_octets t)) _ c in
    let e = and_right (leb (core_octets t) 60) _ d in
    let f = and_right (eqb (octets if1 t) (3 + core_octets t)) _ e in
    let g = and_right (eqb (octets storage t) (1 + core_octets t)) _ f in
    record {
      type_known = and_left _ _ a;
      three = leb-true _ _ (and_left _ _ b);
      some = leb-true _ _ (and_left _ _ c);
      few = leb-true _ _ (and_left _ _ d);
      in_if1 = eqb-true _ _ (and_left _ _ e);
      in_storage = eqb-true _ _ (and_left _ _ f);
      in_if2 = eqb-true _ _ g;
      one = one_of (eqb t 1);
    }

-- an octet-aligned format: not IF2
pub aligned_header : (f : Format) (t : ℕ) → f ≢ if2 → t ≤ 9 → (8 * core_at f ≡ header_bits f t) × (octets f t ≡ core_at f + core_octets t)
aligned_header if1 t n h = (sym (rw (le-leb t 9 h)), (sizes t h).in_if1)
aligned_header if2 t n h = absurd (n refl)
aligned_header storage t n h = (refl, (sizes t h).in_storage)

behind-whole : (g : Format) (w : List Bool) → g ≢ if2 → behind g w ≡ w
behind-whole if1 w n = refl
behind-whole if2 w n = absurd (n refl)
behind-whole storage w n = refl

-- ---- the source

-- behind the header stand the core, its filling, and what follows the frame
source_core : (f : Format) (src : List ℕ) (x : Frame) (n : ℕ) → Begins f src x n
    → drop (header_bits f x.type) (bits src) ≡ x.core ++ (replicate (fill_bits f x.type) false ++ bits (drop n src))
source_core f src x n b =
    let z = replicate (fill_bits f x.type) false ++ bits (drop n src) in
    ap (λ s. drop (header_bits f x.type) (bits s)) (sym (take-append-drop n src) ∙ ap (λ s. s ++ drop n src) b.laid)
    ∙ ap (drop (header_bits f x.type)) (bits-layout f x (drop n src) b.valid) ∙ after-header f x z

module _ (f g : Format) (t : ℕ) (src out : List ℕ) (x : Frame) (h : t ≤ 9) (ex : x.type ≡ t) (c : Carriable f g src x out) where
  core_long : length x.core ≡ core_bits t
  core_long = c.begins.valid.core_length ∙ ap core_bits ex

  -- the bits behind the frame
  abbrev pub after : List Bool
  after = bits (drop (octets f x.type) src)

  stream : drop (header_bits f t) (bits src) ≡ x.core ++ (replicate (fill_bits f t) false ++ after)
  stream =
      ap (λ k. drop (header_bits f k) (bits src)) (sym ex) ∙ source_core f src x (octets f x.type) c.begins
      ∙ ap (λ k. x.core ++ (replicate (fill_bits f k) false ++ bits (drop (octets f x.type) src))) ex

  filled : header_bits f t + core_bits t + fill_bits f t ≡ 8 * octets f t
  filled = let r = room f t (sizes t h).type_known in omega (arith, r.0)

  pub source_long : octets f t ≤ length src
  source_long =
      let l = ap length c.begins.laid in
      let e : octets f x.type ≡ octets f t = ap (octets f) ex in
      omega (arith, c.begins.size, length-take (octets f x.type) src)

  pub room-there : octets g t ≤ length out
  room-there = let e : octets g x.type ≡ octets g t = ap (octets g) ex in omega (arith, c.room)

  -- where the core begins an octet
  module _ (n : f ≢ if2) where
    pub whole-stream : drop (8 * core_at f) (bits src) ≡ x.core ++ (replicate (fill_bits f t) false ++ after)
    whole-stream = ap (λ k. drop k (bits src)) (aligned_header f t n h).0 ∙ stream

    pub whole-filled : length x.core + fill_bits f t ≡ 8 * core_octets t
    whole-filled = let a = aligned_header f t n h in omega (arith, core_long, filled, a.0, a.1)

    from-core : bits (drop (core_at f) src) ≡ x.core ++ (replicate (fill_bits f t) false ++ after)
    from-core = bits-drop (core_at f) src ∙ whole-stream

    -- from its first bit, and from its fourth
    pub whole-ends : Ends (drop (core_at f) src) 0 (core_octets t - 1) x.core (fill_bits f t) after
    whole-ends = record { stream = from-core; border = omega (arith, whole-filled, (sizes t h).some) }

    pub fourth-ends : Ends (drop (core_at f) src) 3 (core_octets t - 1) (drop 3 x.core) (fill_bits f t) after
    fourth-ends = record {
      stream = ap (drop 3) from-core ∙ drop-append-le 3 x.core (replicate (fill_bits f t) false ++ after) (omega (arith, core_long, (sizes t h).three));
      border = omega (arith, whole-filled, core_long, (sizes t h).three, (sizes t h).some, length-drop 3 x.core);
    }

pub if2_ends : (g : Format) (t : ℕ) (src out : List ℕ) (x : Frame) (h : t ≤ 9) (ex : x.type ≡ t) (c : Carriable if2 g src x out)
    → Ends src 5 (octets if2 t - 1) x.core (fill_bits if2 t) (after if2 g t src out x h ex c)
if2_ends g t src out x h ex c = record {
  stream = stream if2 g t src out x h ex c;
  border = omega (arith, filled if2 g t src out x h ex c, core_long if2 g t src out x h ex c, (sizes t h).some, (sizes t h).in_if2, (sizes t h).one);
}

-- ---- moves

-- how a core of type t is moved: c octets from bit a of the source's octet i on, and one more where last is so, to where it begins in the target
pub record Moves (f g : Format) (t i a c : ℕ) (last : Bool) : Type 0 where
  pub count : core_at g + (c + one_if last) ≡ octets g t
  pub inside : i + c < octets f t
  pub few : c ≤ 64
  pub ends : (src out : List ℕ) (x : Frame) → x.type ≡ t → Carriable f g src x out → (z : ℕ) × (r : List Bool) × Ends (drop i src) a c (behind g x.core) z r

module _ (t : ℕ) (h : t ≤ 9) where
  pub some-octet : (1 ≤ core_octets t) × (1 ≤ octets if2 t)
  some-octet = let s = sizes t h in (s.some, omega (arith, s.some, s.in_if2, s.one))

  up : (f : Format) → f ≢ if2 → Moves f if2 t (core_at f) 3 (core_octets t - 1) (not (eqb t 1))
  up f nf =
      let s = sizes t h in
      let a = aligned_header f t nf h in
      record {
        count = omega (arith, s.some, s.in_if2, s.one);
        inside = omega (arith, a.1, s.some);
        few = omega (arith, s.few);
        ends = λ src out x ex c. (fill_bits f t, after f if2 t src out x h ex c, fourth-ends f if2 t src out x h ex c nf);
      }

  down : (g : Format) → g ≢ if2 → Moves if2 g t 0 5 (octets if2 t - 1) (eqb t 1)
  down g ng =
      let s = sizes t h in
      let a = aligned_header g t ng h in
      record {
        count = omega (arith, a.1, s.some, s.in_if2, s.one);
        inside = omega (arith, some-octet.1);
        few = omega (arith, s.in_if2, s.few);
        ends = λ src out x ex c. (
          fill_bits if2 t,
          after if2 g t src out x h ex c,
          subst (λ w. Ends src 5 (octets if2 t - 1) w (fill_bits if2 t) (after if2 g t src out x h ex c)) (sym (behind-whole g x.core ng)) (if2_ends g t src out x h ex c),
        );
      }

  whole : (f g : Format) → f ≢ if2 → g ≢ if2 → Moves f g t (core_at f) 0 (core_octets t - 1) true
  whole f g nf ng =
      let s = sizes t h in
      let a = aligned_header f t nf h in
      let b = aligned_header g t ng h in
      record {
        count = omega (arith, b.1, s.some);
        inside = omega (arith, a.1, s.some);
        few = omega (arith, s.few);
        ends = λ src out x ex c. (
          fill_bits f t,
          after f g t src out x h ex c,
          subst (λ w. Ends (drop (core_at f) src) 0 (core_octets t - 1) w (fill_bits f t) (after f g t src out x h ex c)) (sym (behind-whole g x.core ng)) (whole-ends f g t src out x h ex c nf),
        );
      }

  -- the same by the code's numbers: the source's octet i, and n octets of core, or of the IF2 frame
  pub moves_up : (f g : Format) (i n : ℕ) → g ≡ if2 → f ≢ if2 → i ≡ core_at f → n ≡ core_octets t → Moves f g t i 3 (n - 1) (not (eqb t 1))
  moves_up f g i n eg nf ei en = rw (eg, ei, en) (up f nf)

  pub moves_down : (f g : Format) (n : ℕ) → f ≡ if2 → g ≢ if2 → n ≡ octets if2 t → Moves f g t 0 5 (n - 1) (eqb t 1)
  moves_down f g n ef ng en = rw (ef, en) (down g ng)

  pub moves_whole : (f g : Format) (i n : ℕ) → f ≢ if2 → g ≢ if2 → i ≡ core_at f → n ≡ core_octets t → Moves f g t i 0 (n - 1) true
  moves_whole f g i n nf ng ei en = rw (ei, en) (whole f g nf ng)

-- the code begins within both slices
core_inside : (f : Format) (t : ℕ) → t ≤ 9 → core_at f ≤ octets f t
core_inside if1 t h = omega (arith, (sizes t h).in_if1)
core_inside if2 t h = (some-octet t h).1
core_inside storage t h = omega (arith, (sizes t h).in_storage)

pub within : (f g : Format) (t : ℕ) (src out : List ℕ) (x : Frame) → t ≤ 9 → x.type ≡ t → Carriable f g src x out → (core_at f ≤ length src) × (core_at g ≤ length out)
within f g t src out x h ex c = (
  omega (arith, core_inside f t h, source_long f g t src out x h ex c),
  omega (arith, core_inside g t h, room-there f g t src out x h ex c),
)

-- ---- what a move asks and gives: s is the source from octet i on, and j where the core begins in the target

module _ (f g : Format) (t i a c : ℕ) (last : Bool) (h : t ≤ 9) (m : Moves f g t i a c last) (s src out : List ℕ) (j : ℕ) (es : s ≡ drop i src) (ej : j ≡ core_at g)
    (x : Frame) (ex : x.type ≡ t) (v : Carriable f g src x out) where
  to : take (length out - j) (drop j out) ≡ drop (core_at g) out
  to = take_rest out j ∙ ap (λ k. drop k out) ej

  pub move_asks : a < 8 → (a < 8) × (c < length s) × (c + one_if last ≤ length (take (length out - j) (drop j out))) × (c ≤ 64)
  move_asks ha = (
    ha,
    omega (arith, ap length es, length-drop i src, m.inside, source_long f g t src out x h ex v),
    omega (arith, ap length to, length-drop (core_at g) out, m.count, room-there f g t src out x h ex v),
    m.few,
  )

  pub move_gives : (d : List ℕ)
      → ((w : List Bool) (z : ℕ) (r : List Bool) → Ends s a c w z r → d ≡ packs (c + one_if last) w ++ drop (c + one_if last) (take (length out - j) (drop j out)))
      → put_mid j (length out - j) out d ≡ take (core_at g) out ++ (packs (octets g t - core_at g) (behind g x.core) ++ drop (octets g t) out)
  move_gives d e =
      let q = m.ends src out x ex v in
      let w = behind g x.core in
      let p : c + one_if last ≡ octets g t - core_at g = omega (arith, m.count) in
      let none : drop (length out - core_at g) (drop (core_at g) out) ≡ [] =
      drop_of_length-le (drop (core_at g) out) {i = length out - core_at g} (omega (arith, length-drop (core_at g) out)) in
      ap (λ k. take k out ++ (d ++ drop (length out - k) (drop k out))) ej
      ∙ ap (λ l. take (core_at g) out ++ (d ++ l)) none ∙ ap (λ l. take (core_at g) out ++ l)
      (append-nil d ∙ e w q.0 q.1 (subst (λ s. Ends s a c w q.0 q.1) (sym es) q.2)
      ∙ ap₂ (λ k l. packs k w ++ l) p
      (ap (drop (c + one_if last)) to ∙ drop-drop (c + one_if last) (core_at g) out ∙ ap (λ k. drop k out) m.count))
