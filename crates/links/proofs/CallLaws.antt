-- What a call answers where each test of its chain holds, and that each held where it is not refused. Assumes nothing.
use mathlib.Core.Path.{◌≡◌, refl, sym, ap, ◌∙◌, subst}
use mathlib.Core.Logic.{◌≢◌}
use mathlib.Core.Bool.{Bool, true, false, not, ◌&&◌, cond}
use mathlib.Core.List.Memᴰ
use mathlib.Core.List.{List, [], ◌++◌, Memᴰ}
use Prim.Native.Nat.{ℕ, zero, suc, ◌+◌, ◌%◌, ◌≤◌}
use native.Mathlib.Omega.{arith}
use lib.Dec.{eqb, leb}
use lib.ListN.{length, take, length-append}
use lib.Seq.{length-take-le}
use borrow.Author.Tests.{leb-true, le-leb, eqb-true, eqb-false, eq-eqb, ne_eqb, not-true}
use Rattle.bits.specs.Bits.{num, bits, octets_for}
use Rattle.bits.proofs.BitLaws.{length-bits, pack_octets}
use Rattle.std.proofs.lemmas.Bool.{and_from}
use Rattle.bits.proofs.Tests.{and_left, and_right}
use Rattle.definitions.specs.Outcome.{Outcome, refused, ok, unless, and_then}
use Rattle.definitions.specs.Frames.{if1, Frame, known, core_bits, octets, header, layout, type_in, frame_in, spare_clear, fields_good, crc_good}
use Rattle.definitions.specs.Reading.{read_with}
use Rattle.definitions.specs.Claims.{Valid}
use Rattle.definitions.proofs.Frames.{never}
use Rattle.definitions.proofs.Claims.{reads_one_frame}
use Rattle.recordings.specs.Conversion.{with_modes}
use Rattle.links.specs.declared.Combination.{Combination}
use Rattle.links.specs.declared.Link.{Link}
use Rattle.links.specs.Sets.{set_good, combinations, rfc_set, by_rfci, by_type, lookup}
use Rattle.links.specs.Calls.{link_by, has_set, in_fives, assign_call, release_call, rate_call, subflow_good, subflows_good, joined, up_frame, no_data_bad, frame_written, up_call, Down, split, roomy, down_frame, down_call}
use Rattle.links.specs.History.{accepted, frame, subflows, move_reply, up_reply, down_reply}
use Rattle.links.proofs.SetLaws.{combination-good, lookup-found}

pub unless-ok : {A : Type 0} (n : ℕ) (b : Bool) (o : Outcome A) (a : A) → unless n b o ≡ ok a → (b ≡ true) × (o ≡ ok a)
unless-ok n true o a h = (refl, h)
unless-ok n false o a h = never n a h

pub then_ok : {A B : Type 0} (o : Outcome A) (next : A → Outcome B) (b : B) → and_then o next ≡ ok b → (a : A) × (o ≡ ok a) × (next a ≡ ok b)
then_ok (refused n) next b h = never n b h
then_ok (ok a) next b h = (a, refl, h)

-- ---- replies

pub move_accepted : (o : Outcome Link) → move_reply o ≡ accepted → (m : Link) × (o ≡ ok m)
move_accepted (refused n) e = absurd (let z : ◌≡◌ {A = ℕ} 0 1 = cc in omega arith)
move_accepted (ok m) e = (m, refl)

pub frame-replied : (o : Outcome (List ℕ)) (w : List ℕ) → up_reply o ≡ frame w → o ≡ ok w
frame-replied (refused n) w e = absurd (let z : ◌≡◌ {A = ℕ} 0 1 = cc in omega arith)
frame-replied (ok v) w e = cc

pub subflows-replied : (o : Outcome Down) (d : Down) → down_reply o ≡ subflows d → o ≡ ok d
subflows-replied (refused n) d e = absurd (let z : ◌≡◌ {A = ℕ} 0 1 = cc in omega arith)
subflows-replied (ok b) d e = cc

-- ---- the calls that move the state

pub assign_takes : (l : Link) (ns : List ℕ) → length ns % 5 ≡ 0 → set_good (in_fives ns) ≡ true → has_set l ≡ false
    → assign_call l ns ≡ ok (link_by (rfc_set (in_fives ns)) l.request l.forwarded)
unfolding assign_call
assign_takes l ns e g p = rw (and_from _ _ (eq-eqb _ _ e) g, p)

pub record Assigned (l : Link) (ns : List ℕ) (m : Link) : Type 0 where
  pub fives : length ns % 5 ≡ 0
  pub good : set_good (in_fives ns) ≡ true
  pub none : has_set l ≡ false
  pub next : link_by (rfc_set (in_fives ns)) l.request l.forwarded ≡ m

pub assign-ok : (l : Link) (ns : List ℕ) (m : Link) → assign_call l ns ≡ ok m → Assigned l ns m
unfolding assign_call
assign-ok l ns m h =
    let a = unless-ok 11 (eqb (length ns % 5) 0 && set_good (in_fives ns)) _ m h in
    let b = unless-ok 15 (not (has_set l)) _ m a.1 in
    record {
      fives = eqb-true _ _ (and_left _ _ a.0);
      good = and_right (eqb (length ns % 5) 0) _ a.0;
      none = not-true _ b.0;
      next = cc b.1;
    }

pub release_takes : (l : Link) → has_set l ≡ true → release_call l ≡ ok (link_by (rfc_set []) l.request l.forwarded)
unfolding release_call
release_takes l p = rw p

pub release-ok : (l m : Link) → release_call l ≡ ok m → (has_set l ≡ true) × (link_by (rfc_set []) l.request l.forwarded ≡ m)
unfolding release_call
release-ok l m h =
    let a = unless-ok 14 (has_set l) _ m h in
    (a.0, cc a.1)

pub rate_takes : (l : Link) (r : ℕ) → r ≤ 8 → rate_call l r ≡ ok (link_by l.set r l.forwarded)
unfolding rate_call
rate_takes l r h = rw (le-leb _ _ h)

pub rate-ok : (l : Link) (r : ℕ) (m : Link) → rate_call l r ≡ ok m → (r ≤ 8) × (link_by l.set r l.forwarded ≡ m)
unfolding rate_call
rate-ok l r m h =
    let a = unless-ok 11 (leb r 8) _ m h in
    (leb-true _ _ a.0, cc a.1)

-- ---- a set

-- where there is a combination, there is a set
pub member_set : (l : Link) {c : Combination} → Memᴰ c (combinations l.set) → has_set l ≡ true
member_set l m = go l.set.count m
  where
    go : (n : ℕ) {c : Combination} → Memᴰ c (take n l.set.places) → leb 1 n ≡ true
    go zero m = absurd (Memᴰ.not-nil m)
    go (suc n) m = le-leb 1 (suc n) (omega arith)

-- ---- Down

-- a frame that is laid out is read
pub read-laid : (x : Frame) → Valid if1 x → read_with true if1 (layout if1 x) ≡ ok (x, length (layout if1 x))
unfolding layout
read-laid x v = (reads_one_frame.exactly if1 (layout if1 x) x _ (pack_octets (header if1 x ++ x.core))).1 (v, refl, refl)

-- a request that is read is a mode
pub read-request : (s : List ℕ) (y : Frame × ℕ) → read_with true if1 s ≡ ok y → y.0.request ≤ 8
unfolding read_with fields_good
read-request s y h =
    let b = bits s in
    let t = type_in if1 b in
    let x = frame_in if1 b in
    let h₁ = unless-ok 1 (leb 1 (length s)) _ y h in
    let h₂ = unless-ok 2 (known t) _ y h₁.1 in
    let h₃ = unless-ok 3 (leb (octets if1 t) (length s)) _ y h₂.1 in
    let h₄ = unless-ok 4 (leb (length s) (octets if1 t)) _ y h₃.1 in
    let h₅ = unless-ok 5 (spare_clear if1 b) _ y h₄.1 in
    let h₆ = unless-ok 6 (fields_good if1 x) _ y h₅.1 in
    let h₇ = unless-ok 7 (crc_good if1 b) _ y h₆.1 in
    let e : (x, octets if1 t) ≡ y = cc h₇.1 in
    subst (λ (y : Frame × ℕ). y.0.request ≤ 8) e (leb-true _ _ (and_left _ _ (and_right (leb x.indication 8) _ h₆.0)))

module _ (l : Link) (s : List ℕ) (m₁ m₂ m₃ : ℕ) where
  pub down_takes : (x : Frame) (n : ℕ) (c : Combination) → has_set l ≡ true → read_with true if1 s ≡ ok (x, n)
      → lookup by_type x.type (combinations l.set) ≡ ok c → roomy c m₁ m₂ m₃ ≡ true → down_call l s m₁ m₂ m₃ ≡ ok (split l c x)
  unfolding down_call
  down_takes x n c p r f h = rw (p, r, f, h)

  pub record Taken (d : Down) : Type 0 where
    pub y : Frame × ℕ
    pub c : Combination
    pub read : read_with true if1 s ≡ ok y
    pub answer : split l c y.0 ≡ d

  pub down-ok : (d : Down) → down_call l s m₁ m₂ m₃ ≡ ok d → Taken d
  unfolding down_call
  down-ok d h =
      let a = unless-ok 14 (has_set l) _ d h in
      let b = then_ok (read_with true if1 s) (λ y. down_frame l y.0 m₁ m₂ m₃) d a.1 in
      let x = b.0.0 in
      let e = then_ok (lookup by_type x.type (combinations l.set)) (λ c. unless 10 (roomy c m₁ m₂ m₃) (ok (split l c x))) d b.2 in
      record { y = b.0; c = e.0; read = b.1; answer = cc (unless-ok 10 (roomy e.0 m₁ m₂ m₃) _ d e.2).1 }

-- ---- Up

subflow-whole : (n : ℕ) (s : List ℕ) → subflow_good n s ≡ true → length (take n (bits s)) ≡ n
subflow-whole n s h =
    let e : length s ≡ octets_for n = eqb-true _ _ (and_left _ _ h) in
    length-take-le n (bits s) (omega (arith, length-bits s, e))

-- sub-flows that are right have a core's bits
joined-whole : (c : Combination) (s₁ s₂ s₃ : List ℕ) → subflows_good c s₁ s₂ s₃ ≡ true
    → length (joined c s₁ s₂ s₃) ≡ c.size1 + c.size2 + c.size3
joined-whole c s₁ s₂ s₃ h =
    let h₂ = and_right (subflow_good c.size1 s₁) _ h in
    let e₁ = subflow-whole c.size1 s₁ (and_left _ _ h) in
    let e₂ = subflow-whole c.size2 s₂ (and_left _ _ h₂) in
    let e₃ = subflow-whole c.size3 s₃ (and_right (subflow_good c.size2 s₂) _ h₂) in
    let b₂ = take c.size2 (bits s₂) in
    let b₃ = take c.size3 (bits s₃) in
    omega (arith, length-append (take c.size1 (bits s₁)) (b₂ ++ b₃), length-append b₂ b₃, e₁, e₂, e₃)

quality-bit : (q : ℕ) → cond (eqb q 0) 1 0 ≤ 1
quality-bit q = go (eqb q 0)
  where
    go : (b : Bool) → cond b 1 0 ≤ 1
    go true = omega arith
    go false = omega arith

no_data-valid : Valid if1 no_data_bad
unfolding num known core_bits fields_good
no_data-valid = record { type_known = refl; quality_bit = omega arith; core_length = refl; fields_are_good = refl }

module _ (l : Link) (i : ℕ) (s₁ s₂ s₃ : List ℕ) (room : ℕ) where
  pub up_makes : (c : Combination) (x : Frame) → leb i 63 ≡ true → has_set l ≡ true → lookup by_rfci i (combinations l.set) ≡ ok c
      → subflows_good c s₁ s₂ s₃ ≡ true → up_frame l.request 0 c s₁ s₂ s₃ ≡ x → fields_good if1 x ≡ true → octets if1 x.type ≤ room
      → up_call l 0 i s₁ s₂ s₃ room ≡ ok (layout if1 x)
  unfolding up_call
  up_makes c x h p f g e v m =
      let w : frame_written x room ≡ ok (layout if1 x) = rw (v, le-leb _ _ m) in
      rw (h, p, f, g) (ap (λ x. frame_written x room) e ∙ w)

  pub record Made (q : ℕ) (w : List ℕ) : Type 0 where
    pub c : Combination
    pub found : lookup by_rfci i (combinations l.set) ≡ ok c
    pub subflows : subflows_good c s₁ s₂ s₃ ≡ true
    pub fields : fields_good if1 (up_frame l.request q c s₁ s₂ s₃) ≡ true
    pub answer : layout if1 (up_frame l.request q c s₁ s₂ s₃) ≡ w

  pub up_ok : (q : ℕ) (w : List ℕ) → q ≢ 1 → up_call l q i s₁ s₂ s₃ room ≡ ok w → Made q w
  unfolding up_call
  up_ok q w n h =
      let joins : Combination → Outcome (List ℕ) = λ c. unless 17 (subflows_good c s₁ s₂ s₃) (frame_written (up_frame l.request q c s₁ s₂ s₃) room) in
      let a = unless-ok 11 (leb q 3 && leb i 63) _ w h in
      let b = unless-ok 14 (has_set l) _ w a.1 in
      let e = unless-ok 13 (leb q 2) _ w b.1 in
      let f = then_ok (lookup by_rfci i (combinations l.set)) (λ c. cond (eqb q 1) (frame_written no_data_bad room) (joins c)) w e.1 in
      let c = f.0 in
      let x = up_frame l.request q c s₁ s₂ s₃ in
      let g = unless-ok 17 (subflows_good c s₁ s₂ s₃) (frame_written x room) w (sym (ap (λ b. cond b (frame_written no_data_bad room) (joins c)) (ne_eqb q 1 n)) ∙ f.2) in
      let v = unless-ok 6 (fields_good if1 x) _ w g.1 in
      record { c = c; found = f.1; subflows = g.0; fields = v.0; answer = cc (unless-ok 10 (leb (octets if1 x.type) room) _ w v.1).1 }

  pub made-valid : (q : ℕ) (w : List ℕ) (u : Made q w) → Valid if1 (up_frame l.request q u.c s₁ s₂ s₃)
  made-valid q w u =
      let g = combination-good u.c (lookup-found by_rfci i (combinations l.set) u.c u.found).good in
      record {
        type_known = g.type_known;
        quality_bit = quality-bit q;
        core_length = joined-whole u.c s₁ s₂ s₃ u.subflows ∙ g.sum;
        fields_are_good = u.fields;
      }

  pub up-bad : (w : List ℕ) → up_call l 1 i s₁ s₂ s₃ room ≡ ok w → layout if1 no_data_bad ≡ w
  unfolding up_call
  up-bad w h =
      let a = unless-ok 11 (leb i 63) _ w h in
      let b = unless-ok 14 (has_set l) _ w a.1 in
      let f = then_ok (lookup by_rfci i (combinations l.set)) (λ c. frame_written no_data_bad room) w b.1 in
      let v = unless-ok 6 (fields_good if1 no_data_bad) _ w f.2 in
      cc (unless-ok 10 (leb (octets if1 15) room) _ w v.1).1

  -- what Up writes
  pub record Written (w : List ℕ) : Type 0 where
    pub x : Frame
    pub valid : Valid if1 x
    pub modes : x ≡ with_modes l.request x
    pub answer : layout if1 x ≡ w

  pub up-written : (q : ℕ) (w : List ℕ) → up_call l q i s₁ s₂ s₃ room ≡ ok w → Written w
  up-written q w h = go (eqb q 1) refl
    where
      go : (b : Bool) → eqb q 1 ≡ b → Written w
      go true e = record {
        x = no_data_bad;
        valid = no_data-valid;
        modes = refl;
        answer = up-bad w (sym (ap (λ q. up_call l q i s₁ s₂ s₃ room) (eqb-true q 1 e)) ∙ h);
      }
      go false e =
          let u = up_ok q w (eqb-false q 1 e) h in
          record { x = up_frame l.request q u.c s₁ s₂ s₃; valid = made-valid q w u; modes = refl; answer = u.answer }
