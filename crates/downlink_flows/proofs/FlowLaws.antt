-- A sub-flow of no bits, the octets of a part of a core, and that what is said is the definition's. Assumes nothing.
use mathlib.Core.Path.{◌≡◌, sym, ap, ◌∙◌}
use mathlib.Core.Bool.{Bool, cond}
use mathlib.Core.List.{List, ◌++◌}
use Prim.Native.Nat.{ℕ, ◌+◌, ◌≤◌}
use native.Mathlib.Omega.{arith}
use lib.Dec.{eqb}
use lib.ListN.{length, take, drop, length-drop}
use lib.Seq.{length-take-le}
use Rattle.bits.specs.Bits.{packs, pack, octets_for}
use Rattle.bits.proofs.BitLaws.{length-pack}
use Rattle.frame.specs.Answers.{frame_with}
use Rattle.frame.specs.declared.FrameHeader.{FrameHeader}
use Rattle.links.specs.declared.Combination.{Combination}
use Rattle.links.specs.declared.Link.{Link}
use Rattle.links.specs.Calls.{Forward, nothing, request, forwards, split}
use Rattle.downlink_flows.specs.Answers.{numbers}

-- ---- the sub-flows

-- no bits
pub none-put : (bs : List Bool) (from n : ℕ) (d : List ℕ) → n ≡ 0 → d ≡ pack (take n (drop from bs)) ++ drop (octets_for n) d
unfolding packs pack
none-put bs from n d z = sym (ap (λ n. pack (take n (drop from bs)) ++ drop (octets_for n) d) z)

-- a part's octets
pub length_part : (m n : ℕ) (l : List Bool) → m + n ≤ length l → length (pack (take n (drop m l))) ≡ octets_for n
length_part m n l h = length-pack (take n (drop m l)) ∙ ap octets_for (length-take-le n (drop m l) (omega (arith, length-drop m l)))

module _ (l : Link) (h : FrameHeader) (c : Combination) (core : List Bool) (size : length core ≡ c.size1 + c.size2 + c.size3) where
  pub numbers-split : (q n₁ n₂ n₃ : ℕ) (w : Forward) → q ≡ cond (eqb h.quality 1) 0 1 → n₁ ≡ octets_for c.size1 → n₂ ≡ octets_for c.size2
      → n₃ ≡ octets_for c.size3 → w ≡ cond (forwards l.forwarded (frame_with h core)) (request h.request) nothing
      → record { fqc = q; rfci = c.rfci; octets1 = n₁; octets2 = n₂; octets3 = n₃; forward = w } ≡ numbers (split l c (frame_with h core))
  numbers-split q n₁ n₂ n₃ w eq e₁ e₂ e₃ ew =
      let a = length_part 0 c.size1 core (omega arith) in
      let b = length_part c.size1 c.size2 core (omega arith) in
      let d = length_part (c.size1 + c.size2) c.size3 core (omega arith) in
      cc
