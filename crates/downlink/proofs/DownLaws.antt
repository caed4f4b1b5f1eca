-- What is put into the buffers is the frame's core, split, and what is answered is the definition's. Assumes nothing.
use mathlib.Core.Path.{◌≡◌, refl, sym, ap, ap₂, ◌∙◌}
use mathlib.Core.Bool.{Bool, true}
use mathlib.Core.List.{List, ◌++◌}
use Prim.Native.Nat.{ℕ, ◌+◌, ◌-◌, ◌*◌, ◌≤◌}
use native.Mathlib.Omega.{arith}
use Rattle.std.proofs.Common.{Ok}
use lib.ListN.{length, take, drop, length-drop}
use Rattle.std.proofs.lemmas.List.{drop-take}
use lib.Seq.{take-take, length-take-le}
use borrow.Author.Tests.{eqb-true}
use Rattle.bits.specs.Bits.{bits, pack, octets_for}
use Rattle.bits.proofs.BitLaws.{length-bits}
use Rattle.definitions.specs.Outcome.{Outcome, refused, ok}
use Rattle.definitions.specs.Frames.{if1, known, core_bits, octets, header_bits, core_in}
use Rattle.definitions.specs.Reading.{overwritten}
use Rattle.frame.specs.Answers.{frame_with}
use Rattle.frame.specs.declared.FrameHeader.{FrameHeader}
use Rattle.frame.proofs.TableLaws.{room}
use Rattle.links.specs.declared.Combination.{Combination}
use Rattle.links.specs.declared.Link.{Link}
use Rattle.links.specs.Sets.{combinations, by_type, lookup}
use Rattle.links.specs.Calls.{Down, split, roomy, down_frame, down_after}
use Rattle.links.proofs.SetLaws.{combination-good, lookup-found}
use Rattle.downlink_flows.specs.Answers.{numbers, subflows_of, SubflowsPut}
use Rattle.downlink_flows.specs.declared.Subflows.{Subflows}
use Rattle.downlink_flows.proofs.FlowLaws.{length_part}
use Rattle.downlink.specs.Answers.{in_numbers, flow_after, next_link, SplitInto}

-- ---- the promise

-- a part of a front
pub take-drop_front : {A : Type 0} (m n k : ℕ) (l : List A) → m + n ≤ k → take n (drop m (take k l)) ≡ take n (drop m l)
take-drop_front m n k l h =
    let e : k ≡ m + (k - m) = omega arith in
    ap (take n) (ap (λ j. drop m (take j l)) e ∙ drop-take m (k - m) l) ∙ take-take n (k - m) (drop m l) (omega arith)

-- of a frame with the combination that was found for its type
module _ (l : Link) (h : FrameHeader) (s : List ℕ) (c : Combination) (m₁ m₂ m₃ : ℕ)
    (found : ok c ≡ lookup by_type h.frame_type (combinations l.set)) (there : octets if1 h.frame_type ≤ length s) where
  core : List Bool
  core = core_in if1 h.frame_type (bits s)

  bits-whole : (known h.frame_type ≡ true) × (c.size1 + c.size2 + c.size3 ≡ core_bits h.frame_type)
  bits-whole =
      let f = lookup-found by_type h.frame_type (combinations l.set) c (sym found) in
      let g = combination-good c f.good in
      let t : c.frame_type ≡ h.frame_type = eqb-true _ _ f.named in
      (ap known (sym t) ∙ g.type_known, g.sum ∙ ap core_bits t)

  pub bits-there : (from : ℕ) → from ≡ header_bits if1 h.frame_type → from + c.size1 + c.size2 + c.size3 ≤ 8 * length s
  bits-there from e = omega (arith, bits-whole.1, (room if1 h.frame_type bits-whole.0).0)

  pub core-whole : length (core_in if1 h.frame_type (bits s)) ≡ c.size1 + c.size2 + c.size3
  core-whole =
      let t = h.frame_type in
      length-take-le (core_bits t) (drop (header_bits if1 t) (bits s))
      (omega (arith, length-drop (header_bits if1 t) (bits s), length-bits s, (room if1 t bits-whole.0).0))
      ∙ sym bits-whole.1

  frame-split : roomy c m₁ m₂ m₃ ≡ true
      → down_frame l (frame_with h (core_in if1 h.frame_type (bits s))) m₁ m₂ m₃ ≡ ok (split l c (frame_with h (core_in if1 h.frame_type (bits s))))
  frame-split w = rw (← found, w)

  -- a sub-flow in front of what was there
  laid : (m n from : ℕ) (d₀ d : List ℕ) → from ≡ header_bits if1 h.frame_type → m + n ≤ c.size1 + c.size2 + c.size3
      → d ≡ pack (take n (drop m (drop from (bits s)))) ++ drop (octets_for n) d₀ → d ≡ overwritten (pack (take n (drop m core))) d₀
  unfolding core
  laid m n from d₀ d e w put =
      let t = h.frame_type in
      put ∙ ap₂ (λ x k. pack x ++ drop k d₀)
      (ap (λ k. take n (drop m (drop k (bits s)))) e ∙ sym (take-drop_front m n (core_bits t) (drop (header_bits if1 t) (bits s)) (omega (arith, bits-whole.1))))
      (sym (length_part m n (core_in if1 t (bits s)) (omega (arith, core-whole))))

  pub frame_into : (from : ℕ) (a₀ a b₀ b c₀ d : List ℕ) (r : Subflows) → from ≡ header_bits if1 h.frame_type → roomy c m₁ m₂ m₃ ≡ true
      → SubflowsPut c (drop from (bits s)) a₀ a b₀ b c₀ d
      → subflows_of r ≡ numbers (split l c (frame_with h (core_in if1 h.frame_type (bits s))))
      → SplitInto (down_frame l (frame_with h (core_in if1 h.frame_type (bits s))) m₁ m₂ m₃) a₀ a b₀ b c₀ d (Ok r)
  unfolding core
  frame_into from a₀ a b₀ b c₀ d r e w put f =
      let o = frame-split w in
      record {
        answer = ap ok f ∙ sym (ap in_numbers o);
        buffer1 = laid 0 c.size1 from a₀ a e (omega arith) put.flow1 ∙ sym (ap (λ o. flow_after (λ y. y.flow1) o a₀) o);
        buffer2 = laid c.size1 c.size2 from b₀ b e (omega arith) put.flow2 ∙ sym (ap (λ o. flow_after (λ y. y.flow2) o b₀) o);
        buffer3 = laid (c.size1 + c.size2) c.size3 from c₀ d e (omega arith) put.flow3 ∙ sym (ap (λ o. flow_after (λ y. y.flow3) o c₀) o);
      }

-- ---- the state after it

pub next_after : (o : Outcome Down) (l : Link) → next_link (in_numbers o) l ≡ down_after o l
next_after (refused n) l = refl
next_after (ok d) l = refl
