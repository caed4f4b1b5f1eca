-- Each refusal of Up follows from the tests made before it, and what is judged right is written as the definition has it. Assumes nothing.
use mathlib.Core.Path.{◌≡◌, refl, sym, ap, subst, ◌∙◌}
use mathlib.Core.Bool.{Bool, true, false, ◌&&◌, ◌||◌, cond}
use mathlib.Core.List.{List, [], ◌++◌}
use Prim.Native.Nat.{ℕ, ◌+◌, ◌*◌, ◌<◌, ◌≤◌}
use native.Mathlib.Omega.{arith}
use Rattle.std.specs.Bool.{then_some}
use Rattle.std.proofs.Common.{Option, Some, None, Result, Ok, Err}
use Rattle.std.proofs.lemmas.List.{nil_from_length}
use denote.Enum.Bare.{sameb}
use lib.Dec.{eqb, leb}
use lib.ListN.{length, take, length-append}
use lib.Seq.{length-take-le}
use borrow.Author.Tests.{lt-leb, leb-true, leb-false, eqb-true, ne_eqb}
use Rattle.bits.specs.Bits.{bits, octets_for}
use Rattle.bits.proofs.BitLaws.{length-bits}
use Rattle.bits.proofs.Tests.{and_left, and_right}
use Rattle.definitions.specs.Outcome.{Outcome, refused, ok, unless, and_then}
use Rattle.definitions.specs.Frames.{frame_by, core_bits}
use Rattle.definitions.proofs.Frames.{frame_path, never}
use Rattle.frame.specs.Answers.{number_of}
use Rattle.frame.specs.declared.Refusal.{Refusal}
use Rattle.frame.specs.declared.Refusal.TheVariants.{SubflowBuffer}
use Rattle.links.specs.declared.Combination.{Combination}
use Rattle.links.specs.declared.Fqc.{Fqc}
use Rattle.links.specs.declared.Fqc.TheVariants.{Good, Bad, BadRadio, Reserved}
use Rattle.links.specs.contracts.Fqc.{the_type}
use Rattle.links.specs.declared.Link.{Link}
use Rattle.links.specs.Answers.{fqc_number, numbered_of}
use Rattle.links.specs.Sets.{link_type, combination_good, combinations, by_rfci, lookup}
use Rattle.links.specs.Calls.{subflow_good, subflows_good, joined, up_frame, no_data_bad, frame_written, up_call}
use Rattle.links.proofs.SetLaws.{combination-good, lookup-found}
use Rattle.uplink_judge.specs.Judging.{picked, HasCore, Judges}

-- ---- sub-flows

there : (n : ℕ) (s : List ℕ) → subflow_good n s ≡ true → n ≤ 8 * length s
there n s h = omega (arith, eqb-true (length s) (octets_for n) (and_left _ _ h))

module _ (c : Combination) (s₁ s₂ s₃ : List ℕ) (good : subflows_good c s₁ s₂ s₃ ≡ true) where
  rest : (subflow_good c.size2 s₂ && subflow_good c.size3 s₃) ≡ true
  rest = and_right (subflow_good c.size1 s₁) _ good

  pub there₁ : c.size1 ≤ 8 * length s₁
  there₁ = there c.size1 s₁ (and_left _ _ good)

  pub there₂ : c.size2 ≤ 8 * length s₂
  there₂ = there c.size2 s₂ (and_left _ _ rest)

  pub there₃ : c.size3 ≤ 8 * length s₃
  there₃ = there c.size3 s₃ (and_right (subflow_good c.size2 s₂) _ rest)

pub length-joined : (c : Combination) (s₁ s₂ s₃ : List ℕ) → subflows_good c s₁ s₂ s₃ ≡ true → length (joined c s₁ s₂ s₃) ≡ c.size1 + c.size2 + c.size3
length-joined c s₁ s₂ s₃ g =
    let x : List Bool = take c.size1 (bits s₁) in
    let y : List Bool = take c.size2 (bits s₂) in
    let z : List Bool = take c.size3 (bits s₃) in
    let lx = length-take-le c.size1 (bits s₁) (omega (arith, length-bits s₁, there₁ c s₁ s₂ s₃ g)) in
    let ly = length-take-le c.size2 (bits s₂) (omega (arith, length-bits s₂, there₂ c s₁ s₂ s₃ g)) in
    let lz = length-take-le c.size3 (bits s₃) (omega (arith, length-bits s₃, there₃ c s₁ s₂ s₃ g)) in
    omega (arith, length-append x (y ++ z), length-append y z)

-- above 9 there is type 15 alone
combination-empty : (c : Combination) → combination_good c ≡ true → 9 < c.frame_type → c.frame_type ≡ 15
unfolding combination_good
combination-empty c g h =
    let t = c.frame_type in
    eqb-true t 15 (sym (ap (λ b. b || eqb t 15) (lt-leb t 9 h)) ∙ and_left (link_type t) _ (and_right (leb c.rfci 63) _ g))

-- a combination of type 15 has no bits
module _ (c : Combination) (s₁ s₂ s₃ : List ℕ) (g : combination_good c ≡ true) (t : 9 < c.frame_type) (w : subflows_good c s₁ s₂ s₃ ≡ true) where
  type-empty : c.frame_type ≡ 15
  type-empty = combination-empty c g t

  no_bits : c.size1 + c.size2 + c.size3 ≡ 0
  unfolding core_bits
  no_bits = (combination-good c g).sum ∙ ap core_bits type-empty

  pub frame-empty : (request fqc : ℕ) → frame_by 15 (cond (eqb fqc 0) 1 0) 0 0 [] ≡ up_frame request fqc c s₁ s₂ s₃
  frame-empty request fqc =
      frame_path _ _ (sym type-empty) refl (sym (ap (λ b. cond b c.frame_type 0) (lt-leb c.frame_type 8 (omega arith))))
      (sym (ap (λ b. cond b request 0) (lt-leb c.frame_type 9 t))) (sym (nil_from_length (joined c s₁ s₂ s₃) (length-joined c s₁ s₂ s₃ w ∙ no_bits)))

-- ---- the tests in front of the sub-flows

-- what was picked was looked up
pub picked-good : (l : Link) (fqc rfci : ℕ) (c : Combination) → picked l fqc rfci ≡ ok c → combination_good c ≡ true
unfolding picked
picked-good l fqc rfci c h = passed (leb fqc 3 && leb rfci 63) (leb 1 l.set.count) (leb fqc 2) h
  where
    passed : (b₁ b₂ b₃ : Bool) → unless 11 b₁ (unless 14 b₂ (unless 13 b₃ (lookup by_rfci rfci (combinations l.set)))) ≡ ok c → combination_good c ≡ true
    passed true true true h = (lookup-found by_rfci rfci (combinations l.set) c h).good
    passed false b₂ b₃ h = never 11 c h
    passed true false b₃ h = never 14 c h
    passed true true false h = never 13 c h

-- ---- the call

-- the test for a bad frame
pub bad_test : (q : Fqc) → sameb the_type q Bad ≡ eqb (fqc_number q) 1
bad_test Good = refl
bad_test Bad = refl
bad_test BadRadio = refl
bad_test Reserved = refl

-- the call, by what was picked
up-picked : (l : Link) (fqc rfci : ℕ) (s₁ s₂ s₃ : List ℕ) (room : ℕ)
    → up_call l fqc rfci s₁ s₂ s₃ room ≡ and_then (picked l fqc rfci) (λ c. cond (eqb fqc 1) (frame_written no_data_bad room)
    (unless 17 (subflows_good c s₁ s₂ s₃) (frame_written (up_frame l.request fqc c s₁ s₂ s₃) room)))
unfolding up_call picked
up-picked l fqc rfci s₁ s₂ s₃ room =
    through (leb fqc 3 && leb rfci 63) (leb 1 l.set.count) (leb fqc 2) (lookup by_rfci rfci (combinations l.set)) _
  where
    through : (b₁ b₂ b₃ : Bool) (o : Outcome Combination) (next : Combination → Outcome (List ℕ))
        → unless 11 b₁ (unless 14 b₂ (unless 13 b₃ (and_then o next))) ≡ and_then (unless 11 b₁ (unless 14 b₂ (unless 13 b₃ o))) next
    through true true true o next = refl
    through false b₂ b₃ o next = refl
    through true false b₃ o next = refl
    through true true false o next = refl

module _ (l : Link) (fqc rfci : ℕ) (s₁ s₂ s₃ : List ℕ) where
  pub judges-refused : (r : Result (Option Combination) Refusal) (e : Refusal) → r ≡ Err e → refused (number_of e) ≡ picked l fqc rfci → Judges l fqc rfci s₁ s₂ s₃ r
  judges-refused r e i h = record {
    call = λ room. sym (up-picked l fqc rfci s₁ s₂ s₃ room ∙ rw (← h, i));
    core = λ c z. absurd (let y = sym i ∙ z in cc);
  }

  module _ (c : Combination) (h : ok c ≡ picked l fqc rfci) where
    pub judges_bad : eqb fqc 1 ≡ true → Judges l fqc rfci s₁ s₂ s₃ (Ok None)
    judges_bad e = record {
      call = λ room. sym (up-picked l fqc rfci s₁ s₂ s₃ room ∙ rw (← h, e, ne_eqb fqc 0 (λ z. omega (arith, eqb-true fqc 1 e))));
      core = λ c z. absurd cc;
    }

    module _ (n : eqb fqc 1 ≡ false) where
      pub judges-subflows : subflows_good c s₁ s₂ s₃ ≡ false → Judges l fqc rfci s₁ s₂ s₃ (Err SubflowBuffer)
      judges-subflows w = record {
        call = λ room. sym (up-picked l fqc rfci s₁ s₂ s₃ room ∙ rw (← h, n, w));
        core = λ c z. absurd cc;
      }

      module _ (w : subflows_good c s₁ s₂ s₃ ≡ true) where
        judges-empty : 9 < c.frame_type → Judges l fqc rfci s₁ s₂ s₃ (Ok None)
        judges-empty t = record {
          call = λ room.
              ap (λ x. frame_written x room) (frame-empty c s₁ s₂ s₃ (picked-good l fqc rfci c (sym h)) t w l.request fqc)
              ∙ sym (up-picked l fqc rfci s₁ s₂ s₃ room ∙ rw (← h, n, w));
          core = λ c z. absurd cc;
        }

        judges-core : c.frame_type ≤ 9 → Judges l fqc rfci s₁ s₂ s₃ (Ok (Some c))
        judges-core t = record {
          call = λ room. sym (up-picked l fqc rfci s₁ s₂ s₃ room ∙ rw (← h, n, w));
          core = λ d z.
              let y : c ≡ d = cc in
              subst (λ d. HasCore d s₁ s₂ s₃) y (record { good = picked-good l fqc rfci c (sym h); type = t; flows = w });
        }

        judges-type : (b : Bool) → leb c.frame_type 9 ≡ b → Judges l fqc rfci s₁ s₂ s₃ (Ok (then_some b c))
        judges-type true e = judges-core (leb-true c.frame_type 9 e)
        judges-type false e = judges-empty (leb-false c.frame_type 9 e)

        pub judges-right : (o : Option Combination) (t : ℕ) → t ≡ c.frame_type → o ≡ then_some (leb t 9) c → Judges l fqc rfci s₁ s₂ s₃ (Ok o)
        judges-right o t same e =
            subst (λ o. Judges l fqc rfci s₁ s₂ s₃ (Ok o)) (sym (e ∙ ap (λ t. then_some (leb t 9) c) same)) (judges-type (leb c.frame_type 9) refl)

-- ---- FQC by its number

module _ (n : ℕ) (r : Result Fqc Refusal) (numbered : numbered_of r ≡ unless 11 (leb n 3) (ok n)) where
  -- what is no number of an FQC is refused
  pub number-refused : (e : Refusal) → r ≡ Err e → (l : Link) (rfci : ℕ) (s₁ s₂ s₃ : List ℕ) (t : Result (Option Combination) Refusal) → t ≡ Err e
      → Judges l n rfci s₁ s₂ s₃ t
  unfolding picked
  number-refused e i l rfci s₁ s₂ s₃ t k =
      judges-refused l n rfci s₁ s₂ s₃ t e k (first (leb n 3) (leb rfci 63) _ (sym (ap numbered_of i) ∙ numbered))
    where
      first : (b₁ b₂ : Bool) (o : Outcome Combination) → refused (number_of e) ≡ unless 11 b₁ (ok n) → refused (number_of e) ≡ unless 11 (b₁ && b₂) o
      first true b₂ o h = absurd cc
      first false b₂ o h = let m : number_of e ≡ 11 = cc in ap refused m

  -- what is taken is the number
  pub number-same : (q : Fqc) → r ≡ Ok q → fqc_number q ≡ n
  number-same q i = taken (leb n 3) (sym (ap numbered_of i) ∙ numbered)
    where
      taken : (b : Bool) → ok (fqc_number q) ≡ unless 11 b (ok n) → fqc_number q ≡ n
      taken true h = cc
      taken false h = absurd cc

  -- what is judged of it is judged of the number
  pub judges_number : (q : Fqc) → r ≡ Ok q → (l : Link) (rfci : ℕ) (s₁ s₂ s₃ : List ℕ) (t : Result (Option Combination) Refusal)
      → Judges l (fqc_number q) rfci s₁ s₂ s₃ t → Judges l n rfci s₁ s₂ s₃ t
  judges_number q i l rfci s₁ s₂ s₃ t w = subst (λ m. Judges l m rfci s₁ s₂ s₃ t) (number-same q i) w
