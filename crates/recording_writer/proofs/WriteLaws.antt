-- Writing in another format: what is written and what is still to come make the conversion, and a frame goes from the one to the other.
-- Assumes nothing.
use mathlib.Core.Path.{◌≡◌, refl, sym, ap, ap₂, ◌∙◌, subst}
use mathlib.Core.Bool.{false}
use mathlib.Core.Logic.{◌≢◌}
use mathlib.Core.List.{List, [], ◌∷◌, ◌++◌, map, append_assoc, append-nil}
use Prim.Native.Nat.{ℕ, ◌+◌, ◌-◌, ◌<◌, ◌≤◌}
use native.Mathlib.Omega.{arith}
use lib.ListN.{length, take, drop, length-append, length-take, length-drop, take-append-drop, drop_of_length-le}
use lib.Seq.{take_at, drop_at, drop-drop, take_all}
use Rattle.bits.specs.Bits.{bits, Octets}
use Rattle.definitions.specs.Frames.{Format, if1, if2, storage, Frame, octets, layout, type_in, frame_in}
use Rattle.definitions.specs.Reading.{read_frame, overwritten}
use Rattle.definitions.specs.Claims.{Valid}
use Rattle.definitions.proofs.Tables.{sized}
use Rattle.definitions.proofs.Frames.{type-frame, length-layout, read-layout, judged}
use Rattle.recordings.specs.Placed.{done}
use Rattle.recordings.specs.Recordings.{limit, file_header, read_recording, layouts, write_recording}
use Rattle.recordings.specs.Conversion.{carried, converted}
use Rattle.recordings.specs.Claims.{Every, first}
use Rattle.recordings.proofs.Claims.{reads_recordings}
use Rattle.recordings.proofs.Carried.{size-carried}
use Rattle.core_mover.specs.Carriable.{Carriable}

-- the octets of frames that are carried over
abbrev pub coming : (f g : Format) → ℕ → List Frame → List ℕ
coming f g r ys = layouts g (map (carried g f r) ys)

pub record Written (f g : Format) (r : ℕ) (s d₀ d : List ℕ) (at to : ℕ) : Type 0 where
  pub xs : List Frame
  pub ys : List Frame
  pub read : read_recording f s ≡ done xs
  pub valid : Every (Valid f) ys
  pub ahead : drop at s ≡ layouts f ys
  pub within : at ≤ length s
  pub as_long : length d ≡ length d₀
  pub small : length (converted f g r xs) ≤ limit
  pub room : length (converted f g r xs) ≤ length d₀
  pub so_far : converted f g r xs ≡ take to d ++ coming f g r ys
  pub place : to + length (coming f g r ys) ≡ length (converted f g r xs)
  pub beyond : drop to d ≡ drop to d₀

pub header-room : (f g : Format) (r : ℕ) (xs : List Frame) (d : List ℕ) → length (converted f g r xs) ≤ length d → length (file_header g) ≤ length d
unfolding write_recording
header-room f g r xs d h = omega (arith, length-append (file_header g) (coming f g r xs))

-- it has room there, in the buffer and in storage format's
pub header_fits : (f g : Format) (r : ℕ) (xs : List Frame) (d : List ℕ) (n : ℕ) → length (converted f g r xs) ≤ length d → n ≡ length (file_header g) → n ≤ 9
    → (n ≤ length d) × (n ≡ length (take n d)) × (length (take n d) ≡ length (take n (file_header storage)))
header_fits f g r xs d n h e l =
    let k : n ≤ length d = omega (arith, header-room f g r xs d h) in
    (k, omega (arith, length-take n d), omega (arith, length-take n d, length-take n (file_header storage)))

-- the file header is the first n octets of storage format's, and they are copied
pub header_put : (g : Format) (n : ℕ) (h d : List ℕ) → n ≡ length (file_header g) → h ≡ take n (file_header storage) → h ++ drop n d ≡ overwritten (file_header g) d
header_put g n h d en eh = ap₂ (λ h n. h ++ drop n d) (eh ∙ ap (λ n. take n (file_header storage)) en ∙ front g) en
  where
    front : (g : Format) → take (length (file_header g)) (file_header storage) ≡ file_header g
    front if1 = refl
    front if2 = refl
    front storage = refl

-- the file header leaves the buffer as long as it was
pub header_long : (f g : Format) (r : ℕ) (xs : List Frame) (d₀ d : List ℕ) → length (converted f g r xs) ≤ length d₀ → d ≡ overwritten (file_header g) d₀
    → length d ≡ length d₀
header_long f g r xs d₀ d h e =
    ap length e ∙ length-append (file_header g) (drop (length (file_header g)) d₀)
    ∙ omega (arith, header-room f g r xs d₀ h, length-drop (length (file_header g)) d₀)

-- at the start, the file header is written
pub written_start : (f g : Format) (r : ℕ) (s d₀ d : List ℕ) (xs : List Frame) (at to : ℕ) → Octets s → read_recording f s ≡ done xs
    → length (converted f g r xs) ≤ limit → length (converted f g r xs) ≤ length d₀ → at ≡ length (file_header f) → to ≡ length (file_header g) → d ≡ overwritten (file_header g) d₀ → Written f g r s d d at to
unfolding write_recording
written_start f g r s d₀ d xs at to o h b l ea et ed =
    let w = (reads_recordings.exactly f s xs o).0 h in
    let p = length-append (file_header g) (coming f g r xs) in
    let k : length d ≡ length d₀ = header_long f g r xs d₀ d l ed in
    record {
      xs = xs;
      ys = xs;
      read = h;
      valid = w.valid;
      ahead = ap₂ drop ea w.laid ∙ drop_at (file_header f) (layouts f xs) _ refl;
      within = omega (arith, ap length w.laid, length-append (file_header f) (layouts f xs));
      as_long = refl;
      small = b;
      room = omega arith;
      so_far = ap (λ l. l ++ coming f g r xs) (sym (ap₂ take et ed ∙ take_at (file_header g) (drop (length (file_header g)) d₀) _ refl));
      place = omega arith;
      beyond = refl;
    }

-- ---- the frame at hand

-- x is the next frame, zs are those behind it
pub record Front (f g : Format) (r : ℕ) (s d : List ℕ) (at to : ℕ) (ys : List Frame) : Type 0 where
  pub x : Frame
  pub zs : List Frame
  pub next : ys ≡ x ∷ zs
  pub valid : Valid f x
  pub later : Every (Valid f) zs
  pub laid : drop at s ≡ layout f x ++ layouts f zs
  pub shown : frame_in f (bits (drop at s)) ≡ x

pub front_there : (f g : Format) (r : ℕ) (s d : List ℕ) (at to : ℕ) (ys : List Frame) → at < length s → drop at s ≡ layouts f ys → Every (Valid f) ys → Front f g r s d at to ys
front_there f g r s d at to [] h e v = absurd (omega (arith, length-drop at s, ap length e))
front_there f g r s d at to (x ∷ zs) h e (first v vs) =
    let j = judged false f (drop at s) (x, octets f x.type) (ap (read_frame f) e ∙ read-layout false f x (layouts f zs) v refl) in
    record {
      x = x;
      zs = zs;
      next = refl;
      valid = v;
      later = vs;
      laid = e;
      shown = ap (λ (y : Frame × ℕ). y.0) j.shown;
    }

module _ {f g : Format} {r : ℕ} {s d₀ d : List ℕ} {at to : ℕ} (w : Written f g r s d₀ d at to) (h : at < length s) where
  pub at_front : Front f g r s d at to w.ys
  at_front = front_there f g r s d at to w.ys h w.ahead w.valid

  pub front_type : type_in f (bits (drop at s)) ≡ at_front.x.type
  front_type = sym (type-frame f (bits (drop at s))) ∙ ap (λ y. y.type) at_front.shown

  pub front_octets : octets f at_front.x.type + length (layouts f at_front.zs) ≡ length s - at
  front_octets =
      omega (arith, length-drop at s, ap length at_front.laid, length-append (layout f at_front.x) (layouts f at_front.zs), length-layout f at_front.x at_front.valid)

  coming_front : coming f g r w.ys ≡ layout g (carried g f r at_front.x) ++ coming f g r at_front.zs
  coming_front = ap (coming f g r) at_front.next

  front_size : length (layout g (carried g f r at_front.x)) ≡ octets g at_front.x.type
  front_size = size-carried f g r at_front.x at_front.valid.type_known at_front.valid.core_length

  -- the frame has room
  pub front_room : (to + octets g at_front.x.type + length (coming f g r at_front.zs) ≤ length d) × (to + octets g at_front.x.type ≤ limit)
  front_room =
      let e = ap length coming_front in
      let a = length-append (layout g (carried g f r at_front.x)) (coming f g r at_front.zs) in
      (omega (arith, w.place, w.room, w.as_long, front_size), omega (arith, w.place, w.small, front_size))

  -- the frame is written
  pub written_step : (d' : List ℕ) (m n : ℕ) → m ≡ octets f at_front.x.type → n ≡ octets g at_front.x.type
      → d' ≡ take to d ++ (layout g (carried g f r at_front.x) ++ drop n (drop to d)) → Written f g r s d₀ d' (at + m) (to + n)
  written_step d' m n em en e =
      let x = at_front.x in
      let zs = at_front.zs in
      let l = layout g (carried g f r x) in
      let ll : length (layout g (carried g f r at_front.x)) ≡ n = front_size ∙ sym en in
      let room = front_room in
      let lt : length (take to d) ≡ to = omega (arith, length-take to d) in
      let whole : d' ≡ (take to d ++ l) ++ drop (to + n) d = e ∙ sym (append_assoc (take to d) l (drop n (drop to d))) ∙ ap (λ z. (take to d ++ l) ++ z) (drop-drop n to d) in
      let k : length (take to d ++ l) ≡ to + n = length-append (take to d) l ∙ omega arith in
      record {
        xs = w.xs;
        ys = zs;
        read = w.read;
        valid = at_front.later;
        ahead = sym (drop-drop m at s) ∙ ap (drop m) at_front.laid ∙ drop_at (layout f x) (layouts f zs) m (length-layout f x at_front.valid ∙ sym em);
        within = omega (arith, front_octets, w.within);
        as_long = ap length whole ∙ length-append (take to d ++ l) (drop (to + n) d) ∙ omega (arith, length-drop (to + n) d, w.as_long);
        small = w.small;
        room = w.room;
        so_far =
            w.so_far ∙ ap (λ c. take to d ++ c) coming_front ∙ sym (append_assoc (take to d) l (coming f g r zs))
            ∙ ap (λ p. p ++ coming f g r zs) (sym (ap (take (to + n)) whole ∙ take_at (take to d ++ l) (drop (to + n) d) (to + n) k));
        place = omega (arith, w.place, ap length coming_front, length-append l (coming f g r zs));
        beyond =
            ap (drop (to + n)) whole ∙ drop_at (take to d ++ l) (drop (to + n) d) (to + n) k
            ∙ sym (drop-drop n to d) ∙ ap (drop n) w.beyond ∙ drop-drop n to d₀;
      }

-- at the end, all is written
pub written-end : (f g : Format) (r : ℕ) (s d₁ d₀ d : List ℕ) (at to : ℕ) (xs : List Frame) → length s ≤ at → Written f g r s d₀ d at to
    → d₀ ≡ overwritten (file_header g) d₁ → read_recording f s ≡ done xs → d ≡ overwritten (converted f g r xs) d₁
unfolding write_recording
written-end f g r s d₁ d₀ d at to xs h w e q =
    go w.ys refl
  where
    same : w.xs ≡ xs
    same = let p : done w.xs ≡ done xs = sym w.read ∙ q in cc

    go : (ys : List Frame) → w.ys ≡ ys → d ≡ overwritten (converted f g r xs) d₁
    go (y ∷ ys) ey =
        absurd
        (let v : Every (Valid f) (y ∷ ys) = subst (Every (Valid f)) ey w.valid in
        let a : drop at s ≡ layouts f (y ∷ ys) = w.ahead ∙ ap (layouts f) ey in
        nonempty y ys v (omega (arith, length-drop at s, ap length a)))
      where
        nonempty : (y : Frame) (ys : List Frame) → Every (Valid f) (y ∷ ys) → length (layouts f (y ∷ ys)) ≤ 0 → ⊥
        nonempty y ys (first v vs) l =
            omega (arith, length-append (layout f y) (layouts f ys), length-layout f y v, (sized f y.type v.type_known).some-octet)
    go [] ey =
        let c : converted f g r w.xs ≡ take to d = w.so_far ∙ ap (λ l. take to d ++ coming f g r l) ey ∙ append-nil (take to d) in
        let n : length (converted f g r w.xs) ≡ to = omega (arith, sym w.place, ap (λ l. length (coming f g r l)) ey) in
        let p : length (converted f g r w.xs) ≡ length (file_header g) + length (coming f g r w.xs) = length-append (file_header g) (coming f g r w.xs) in
        let m : to ≡ length (file_header g) + length (coming f g r w.xs) = omega arith in
        let b : drop to d₀ ≡ drop to d₁ =
        ap₂ drop m e ∙ sym (drop-drop (length (coming f g r w.xs)) (length (file_header g)) (overwritten (file_header g) d₁))
        ∙ ap (drop (length (coming f g r w.xs))) (drop_at (file_header g) (drop (length (file_header g)) d₁) _ refl)
        ∙ drop-drop (length (coming f g r w.xs)) (length (file_header g)) d₁ ∙ ap (λ j. drop j d₁) (sym m) in
        sym (take-append-drop to d)
        ∙ ap₂ ◌++◌ (sym c) (w.beyond ∙ b ∙ ap (λ j. drop j d₁) (sym n))
        ∙ ap (λ l. overwritten (converted f g r l) d₁) same

-- ---- what the code reads and writes

-- the part of the recording that the code reads the frame from
pub part_is : (s : List ℕ) (at : ℕ) → take (length s - at) (drop at s) ≡ drop at s
part_is s at = take_all (length s - at) (drop at s) (omega (arith, length-drop at s))

module _ {f g : Format} {r : ℕ} {s d₀ d : List ℕ} {at to : ℕ} (w : Written f g r s d₀ d at to) (l : at < length s) where
  pub part_type : type_in f (bits (take (length s - at) (drop at s))) ≡ (at_front w l).x.type
  part_type = ap (λ p. type_in f (bits p)) (part_is s at) ∙ front_type w l

  -- the frame at hand can be carried over
  pub part_carriable : f ≢ g → Carriable f g (take (length s - at) (drop at s)) (at_front w l).x (take (length d - to) (drop to d))
  part_carriable n =
      let x = (at_front w l).x in
      let v = (at_front w l).valid in
      record {
        others = n;
        begins = record {
          valid = v;
          size = length-layout f x v;
          laid = ap (take (octets f x.type)) (part_is s at ∙ (at_front w l).laid) ∙ take_at (layout f x) (layouts f (at_front w l).zs) _ (length-layout f x v);
        };
        room = omega (arith, (front_room w l).0, length-drop to d, ap length (part_is d to));
      }

  -- the code writes into the part of the buffer from `to` on; q is that part afterwards
  pub part_written : (q : List ℕ) (t m n : ℕ) → t ≡ (at_front w l).x.type → m ≡ octets f t → n ≡ octets g t
      → q ≡ layout g (carried g f r (at_front w l).x) ++ drop (octets g (at_front w l).x.type) (take (length d - to) (drop to d))
      → Written f g r s d₀ (take to d ++ (q ++ drop (length d - to) (drop to d))) (at + m) (to + n)
  part_written q t m n et em en eq =
      let p : take (length d - to) (drop to d) ≡ drop to d = part_is d to in
      let z : drop (length d - to) (drop to d) ≡ [] = drop_of_length-le (drop to d) {i = length d - to} (omega (arith, length-drop to d)) in
      let en' : n ≡ octets g (at_front w l).x.type = en ∙ ap (octets g) et in
      written_step w l (take to d ++ (q ++ drop (length d - to) (drop to d))) m n (em ∙ ap (octets f) et) en'
      (ap (λ t. take to d ++ t)
      (ap (λ t. q ++ t) z ∙ append-nil q ∙ eq ∙ ap (λ t. layout g (carried g f r (at_front w l).x) ++ t) (ap₂ drop (sym en') p)))
