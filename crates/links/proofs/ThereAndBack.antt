-- Sub-flows of a core's sizes, packed, have the core's bits again, and a sub-flow whose filling is 0 is its bits, packed; the frame between
-- is laid out and read again, and the set finds the same combination by its RFCI and by its type. Assumes nothing.
use mathlib.Core.Path.{◌≡◌, refl, sym, ap, ap₂, ◌∙◌, subst}
use mathlib.Core.Bool.{Bool, true, false, cond}
use mathlib.Core.List.{List, ◌++◌}
use Prim.Native.Nat.{ℕ, ◌+◌, ◌≤◌}
use native.Mathlib.Omega.{arith}
use lib.Dec.{eqb}
use lib.ListN.{length, take, drop, length-drop}
use lib.Seq.{take_at, drop_at, drop-drop, take-add, take_all, length-take-le}
use borrow.Author.Tests.{le-leb, eqb-true, eq-eqb}
use Rattle.bits.specs.Bits.{bits, pack, octets_for, Octets}
use Rattle.bits.proofs.BitLaws.{length-pack}
use Rattle.std.proofs.lemmas.Bool.{and_from}
use Rattle.bits.proofs.Tests.{and_left, and_right}
use Rattle.definitions.specs.Frames.{if1, if2, Frame, frame_by, core_bits}
use Rattle.definitions.specs.Reading.{read_with}
use Rattle.definitions.specs.Claims.{Valid}
use Rattle.definitions.proofs.Claims.{reads_one_frame, packed_core, bits-core}
use Rattle.recordings.specs.Conversion.{with_modes, without_modes}
use Rattle.recordings.proofs.Returning.{carried-valid}
use Rattle.links.specs.declared.Combination.{Combination}
use Rattle.links.specs.Sets.{combinations, by_rfci, by_type}
use Rattle.links.specs.Calls.{subflow_good, subflows_good, joined, up_frame, up_call, split, roomy}
use Rattle.links.specs.History.{up_reply, down_reply, link_step}
use Rattle.links.specs.ThereAndBack.{ThereAndBack}
use Rattle.links.proofs.SetLaws.{combination-good, lookup-found, lookup_member}
use Rattle.links.proofs.CallLaws.{member_set, read-laid, down_takes, up_makes, up_ok, made-valid, frame-replied}

-- ---- lists in three parts

module _ {A : Type 0} (a b c : ℕ) where
  parts_join : (l : List A) → length l ≡ a + b + c → take a l ++ (take b (drop a l) ++ take c (drop (a + b) l)) ≡ l
  parts_join l e =
      ap (λ r. take a l ++ (take b (drop a l) ++ take c r)) (sym (drop-drop b a l))
      ∙ ap (λ r. take a l ++ r) (sym (take-add b c (drop a l)))
      ∙ sym (take-add a (b + c) l) ∙ take_all (a + (b + c)) l (omega arith)

  length_parts : (l : List A) → length l ≡ a + b + c
      → (length (take a l) ≡ a) × (length (take b (drop a l)) ≡ b) × (length (take c (drop (a + b) l)) ≡ c)
  length_parts l e = (
    length-take-le a l (omega arith),
    length-take-le b (drop a l) (omega (arith, length-drop a l)),
    length-take-le c (drop (a + b) l) (omega (arith, length-drop (a + b) l)),
  )

  join_parts : (p q r : List A) → length p ≡ a → length q ≡ b → length r ≡ c
      → (take a (p ++ (q ++ r)) ≡ p) × (take b (drop a (p ++ (q ++ r))) ≡ q) × (take c (drop (a + b) (p ++ (q ++ r))) ≡ r)
  join_parts p q r ea eb ec =
      let d : drop a (p ++ (q ++ r)) ≡ q ++ r = drop_at p (q ++ r) a ea in (
        take_at p (q ++ r) a ea,
        ap (take b) d ∙ take_at q r b eb,
        ap (take c) (sym (drop-drop b a (p ++ (q ++ r))) ∙ ap (drop b) d ∙ drop_at q r b eb) ∙ take_all c r (omega arith),
      )

-- ---- sub-flows

-- a sub-flow is its bits, packed
record Subflow (n : ℕ) (s : List ℕ) : Type 0 where
  size : length s ≡ octets_for n
  whole : length (take n (bits s)) ≡ n
  packed : pack (take n (bits s)) ≡ s

subflow_good_lem : (n : ℕ) (s : List ℕ) → Octets s → subflow_good n s ≡ true → Subflow n s
subflow_good_lem n s o h =
    let e = eqb-true _ _ (and_left _ _ h) in
    let p = packed_core n s o e (and_right (eqb (length s) (octets_for n)) _ h) in
    record { size = e; whole = p.0; packed = sym p.1 }

-- packed bits are a sub-flow, and have the bits
pack_subflow : (n : ℕ) (l : List Bool) → length l ≡ n → (subflow_good n (pack l) ≡ true) × (take n (bits (pack l)) ≡ l)
pack_subflow n l e =
    subst (λ n. (subflow_good n (pack l) ≡ true) × (take n (bits (pack l)) ≡ l)) e
    (and_from _ _ (eq-eqb _ _ (length-pack l)) (bits-core l).1, (bits-core l).0)

-- ---- a frame split, and joined again

split-joined : (c : Combination) (core : List Bool) → length core ≡ c.size1 + c.size2 + c.size3
    → let s₁ = pack (take c.size1 core) in
    let s₂ = pack (take c.size2 (drop c.size1 core)) in
    let s₃ = pack (take c.size3 (drop (c.size1 + c.size2) core)) in
    (subflows_good c s₁ s₂ s₃ ≡ true) × (joined c s₁ s₂ s₃ ≡ core)
split-joined c core e =
    let n = length_parts c.size1 c.size2 c.size3 core e in
    let p₁ = pack_subflow c.size1 _ n.0 in
    let p₂ = pack_subflow c.size2 _ n.1 in
    let p₃ = pack_subflow c.size3 _ n.2 in (
      and_from _ _ p₁.0 (and_from _ _ p₂.0 p₃.0),
      ap₂ ◌++◌ p₁.1 (ap₂ ◌++◌ p₂.1 p₃.1) ∙ parts_join c.size1 c.size2 c.size3 core e,
    )

-- a valid frame with the modes that Up writes is valid
modes_valid : (r : ℕ) (x : Frame) → r ≤ 8 → Valid if1 x → Valid if1 (with_modes r x)
modes_valid r x h v = carried-valid if1 if2 r (without_modes x) h (carried-valid if2 if1 r x h v)

-- ---- sub-flows joined, and split again

record Joined (c : Combination) (s₁ s₂ s₃ : List ℕ) : Type 0 where
  flow1 : pack (take c.size1 (joined c s₁ s₂ s₃)) ≡ s₁
  flow2 : pack (take c.size2 (drop c.size1 (joined c s₁ s₂ s₃))) ≡ s₂
  flow3 : pack (take c.size3 (drop (c.size1 + c.size2) (joined c s₁ s₂ s₃))) ≡ s₃
  rooms : (m₁ m₂ m₃ : ℕ) → length s₁ ≤ m₁ → length s₂ ≤ m₂ → length s₃ ≤ m₃ → roomy c m₁ m₂ m₃ ≡ true

joined-split : (c : Combination) (s₁ s₂ s₃ : List ℕ) → Octets s₁ → Octets s₂ → Octets s₃ → subflows_good c s₁ s₂ s₃ ≡ true → Joined c s₁ s₂ s₃
joined-split c s₁ s₂ s₃ o₁ o₂ o₃ h =
    let h₂ = and_right (subflow_good c.size1 s₁) _ h in
    let p₁ = subflow_good_lem c.size1 s₁ o₁ (and_left _ _ h) in
    let p₂ = subflow_good_lem c.size2 s₂ o₂ (and_left _ _ h₂) in
    let p₃ = subflow_good_lem c.size3 s₃ o₃ (and_right (subflow_good c.size2 s₂) _ h₂) in
    let b₁ : List Bool = take c.size1 (bits s₁) in
    let b₂ : List Bool = take c.size2 (bits s₂) in
    let b₃ : List Bool = take c.size3 (bits s₃) in
    let parts = join_parts c.size1 c.size2 c.size3 b₁ b₂ b₃ p₁.whole p₂.whole p₃.whole in
    record {
      flow1 = ap pack parts.0 ∙ p₁.packed;
      flow2 = ap pack parts.1 ∙ p₂.packed;
      flow3 = ap pack parts.2 ∙ p₃.packed;
      rooms = λ m₁ m₂ m₃ r₁ r₂ r₃.
          and_from _ _ (le-leb _ m₁ (omega (arith, p₁.size)))
          (and_from _ _ (le-leb _ m₂ (omega (arith, p₂.size))) (le-leb _ m₃ (omega (arith, p₃.size))));
    }

module _ (r q : ℕ) (c : Combination) (s₁ s₂ s₃ : List ℕ) where
  quality_again : ◌≡◌ {A = ℕ} (cond (eqb (up_frame r q c s₁ s₂ s₃).quality 1) 0 1) (cond (eqb q 0) 0 1)
  quality_again = go (eqb q 0)
    where
      go : (b : Bool) → ◌≡◌ {A = ℕ} (cond (eqb (cond b 1 0) 1) 0 1) (cond b 0 1)
      go true = refl
      go false = refl

-- ---- the calls

pub there_and_back : ThereAndBack link_step
there_and_back = record {
  down_up = λ l s x n c m₁ m₂ m₃ room a o h q m t rooms enough.
      let v = ((reads_one_frame.exactly if1 s x n o).0 h).0 in
      let by-r = lookup_member by_rfci c.rfci c m a.good (eq-eqb c.rfci _ refl) in
      let by-t = lookup_member by_type x.type c m a.good (eq-eqb _ _ t) in
      let g = combination-good c (lookup-found by_rfci c.rfci (combinations l.set) c by-r).good in
      let j = split-joined c x.core (v.core_length ∙ ap core_bits (sym t) ∙ sym g.sum) in
      let p = member_set l m in
      let d = split l c x in
      let e : up_frame l.request 0 c d.flow1 d.flow2 d.flow3 ≡ with_modes l.request x =
      λ i. with_modes l.request (frame_by (t i) (sym q i) 0 0 (j.1 i)) in (
        d,
        ap down_reply (down_takes l s m₁ m₂ m₃ x n c p h by-t rooms),
        record {
          good = ap (λ k. cond (eqb k 1) 0 1) q;
          rfci = refl;
          joined = ap up_reply (up_makes l c.rfci d.flow1 d.flow2 d.flow3 room c (with_modes l.request x) g.rfci p by-r j.0 e
              (modes_valid l.request x a.mode v).fields_are_good enough);
        },
      );
  up_down = λ l q i s₁ s₂ s₃ room w m₁ m₂ m₃ a o₁ o₂ o₃ n h r₁ r₂ r₃.
      let u = up_ok l i s₁ s₂ s₃ room q w n (frame-replied (up_call l q i s₁ s₂ s₃ room) w h) in
      let c = u.c in
      let x = up_frame l.request q c s₁ s₂ s₃ in
      let f = lookup-found by_rfci i (combinations l.set) c u.found in
      let j = joined-split c s₁ s₂ s₃ o₁ o₂ o₃ u.subflows in
      let v = made-valid l i s₁ s₂ s₃ room q w u in (
        split l c x,
        ap down_reply (down_takes l w m₁ m₂ m₃ x _ c (member_set l f.member) (ap (read_with true if1) (sym u.answer) ∙ read-laid x v)
            (lookup_member by_type c.frame_type c f.member a.good (eq-eqb c.frame_type _ refl)) (j.rooms m₁ m₂ m₃ r₁ r₂ r₃)),
        record {
          fqc = quality_again l.request q c s₁ s₂ s₃;
          rfci = eqb-true _ _ f.named;
          flow1 = j.flow1;
          flow2 = j.flow2;
          flow3 = j.flow3;
        },
      );
}
