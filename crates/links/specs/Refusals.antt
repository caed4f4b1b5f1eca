-- When a call of the link is refused, and by which number (document 01, "The link", "Refused because of the input", "Refused because of the
-- state" and "Order"). The conditions are stated over the state, the numbers, lengths, bits and fields, and not by the tests of Calls.antt.
use Rattle.std.specs.Prelude.{◌≡◌, ◌↔◌, ◌⊎◌, true, false, List, [], ◌∷◌, ℕ, ◌*◌, ◌%◌, ◌≤◌, ◌<◌, length}
use mathlib.Core.List.{Memᴰ}
use Rattle.bits.specs.Bits.{bits, octets_for, Octets}
use Rattle.definitions.specs.Outcome.{ok}
use Rattle.definitions.specs.Frames.{if1, highest_mode, no_data_type, octets, layout}
use Rattle.definitions.specs.Refusals.{refusal_order, FirstOf, IsOne, FieldFault, type_of, FrameFault}
use Rattle.links.specs.declared.Combination.{Combination}
use Rattle.links.specs.declared.Link.{Link}
use Rattle.links.specs.Sets.{highest_rfci, combination_good, set_good, combinations, Key, by_rfci, by_type, has, lookup}
use Rattle.links.specs.Calls.{has_set, in_fives, up_frame, no_data_bad}
use Rattle.links.specs.History.{assign, release, rate, up, down, refusal, frame, LinkProgram}

-- document 01, "Order", for Assign, Release, Rate command and Up: "13, 16, 17, a comfort mode above 8 in Up (6), .. and 10". None of them reads
-- a frame, so 6 stands at its second place alone. Down reads one, and has `refusal_order`
abbrev pub link_order : List ℕ
link_order = 11 ∷ 14 ∷ 15 ∷ 13 ∷ 16 ∷ 17 ∷ 6 ∷ 10 ∷ []

-- ---- Assign, Release, Rate command

-- 11 for "rows included": not five numbers for each, not "1 to 11 rows", or a row out of its range or like another; "15 Assign with a set"
pub data AssignFault (l : Link) (ns : List ℕ) : ℕ → Type 0 where
  not_fives : (length ns % 5 ≡ 0 → ⊥) → AssignFault l ns 11
  another_set : set_good (in_fives ns) ≡ false → AssignFault l ns 11
  with_set : has_set l ≡ true → AssignFault l ns 15

-- "14 no set (Release, ..)"
pub data ReleaseFault (l : Link) : ℕ → Type 0 where
  no_set : has_set l ≡ false → ReleaseFault l 14

-- "11 any other argument out of its range, .. a rate command .. included"
pub data RateFault (mode : ℕ) : ℕ → Type 0 where
  mode_above : highest_mode < mode → RateFault mode 11

-- "16 RFCI or type not in the set": no good combination of the set has it. In a set that was assigned every combination is good
abbrev pub NotInSet : Link → Key → ℕ → Type 0
NotInSet l k n = (c : Combination) → Memᴰ c (combinations l.set) → combination_good c ≡ true → has k n c ≡ true → ⊥

-- ---- Up

-- "17 in Up, a sub-flow buffer of the wrong length or with a filling bit 1"
pub data SubflowFault (size : ℕ) (s : List ℕ) : Type 0 where
  another_length : (length s ≡ octets_for size → ⊥) → SubflowFault size s
  filling_bit : (i : ℕ) → size ≤ i → i < 8 * length s → IsOne (bits s) i → SubflowFault size s

-- 11 for FQC and RFCI; "14 no set"; "13 FQC 3"; "16 RFCI .. not in the set". Then, where FQC is not 1, 17, "a comfort mode above 8 in Up (6)" with
-- the frame's other fields, and 10. FQC 1 has "the sub-flows unread and unjudged, the RFCI still judged": 10 is left for it
pub data UpFault (l : Link) (fqc rfci : ℕ) (s₁ s₂ s₃ : List ℕ) (room : ℕ) : ℕ → Type 0 where
  fqc_above : 3 < fqc → UpFault l fqc rfci s₁ s₂ s₃ room 11
  rfci_above : highest_rfci < rfci → UpFault l fqc rfci s₁ s₂ s₃ room 11
  no_set : has_set l ≡ false → UpFault l fqc rfci s₁ s₂ s₃ room 14
  fqc_reserved : fqc ≡ 3 → UpFault l fqc rfci s₁ s₂ s₃ room 13
  rfci_not_in_set : NotInSet l by_rfci rfci → UpFault l fqc rfci s₁ s₂ s₃ room 16
  subflow : (c : Combination) → lookup by_rfci rfci (combinations l.set) ≡ ok c → (fqc ≡ 1 → ⊥)
      → SubflowFault c.size1 s₁ ⊎ (SubflowFault c.size2 s₂ ⊎ SubflowFault c.size3 s₃) → UpFault l fqc rfci s₁ s₂ s₃ room 17
  field : (c : Combination) → lookup by_rfci rfci (combinations l.set) ≡ ok c → (fqc ≡ 1 → ⊥)
      → FieldFault if1 (up_frame l.request fqc c s₁ s₂ s₃) → UpFault l fqc rfci s₁ s₂ s₃ room 6
  too_little_room : (c : Combination) → lookup by_rfci rfci (combinations l.set) ≡ ok c → (fqc ≡ 1 → ⊥)
      → room < octets if1 c.frame_type → UpFault l fqc rfci s₁ s₂ s₃ room 10
  no_room_for_no_data : fqc ≡ 1 → room < octets if1 no_data_type → UpFault l fqc rfci s₁ s₂ s₃ room 10

-- ---- Down

-- "14 no set"; the frame by 1 to 7 as in a call for one frame; "16 .. type not in the set"; "Down's buffers may be longer, and shorter is 10"
pub data DownFault (l : Link) (s : List ℕ) (room₁ room₂ room₃ : ℕ) : ℕ → Type 0 where
  no_set : has_set l ≡ false → DownFault l s room₁ room₂ room₃ 14
  in_frame : {n : ℕ} → FrameFault true if1 s n → DownFault l s room₁ room₂ room₃ n
  type_not_in_set : NotInSet l by_type (type_of if1 s) → DownFault l s room₁ room₂ room₃ 16
  too_little_room : (c : Combination) → lookup by_type (type_of if1 s) (combinations l.set) ≡ ok c
      → (room₁ < octets_for c.size1) ⊎ ((room₂ < octets_for c.size2) ⊎ (room₃ < octets_for c.size3)) → DownFault l s room₁ room₂ room₃ 10

-- ---- the claim, of any link in any state

-- "Each number comes on its stated condition and on no other"
pub record RefusesLink (step : LinkProgram) : Type 0 where
  pub assigns : (l : Link) (ns : List ℕ) (n : ℕ) → ((step l (assign ns)).0 ≡ refusal n) ↔ FirstOf (AssignFault l ns) link_order n
  pub releases : (l : Link) (n : ℕ) → ((step l release).0 ≡ refusal n) ↔ FirstOf (ReleaseFault l) link_order n
  pub commands : (l : Link) (mode n : ℕ) → ((step l (rate mode)).0 ≡ refusal n) ↔ FirstOf (RateFault mode) link_order n
  pub joins : (l : Link) (fqc rfci : ℕ) (s₁ s₂ s₃ : List ℕ) (room n : ℕ)
      → ((step l (up fqc rfci s₁ s₂ s₃ room)).0 ≡ refusal n) ↔ FirstOf (UpFault l fqc rfci s₁ s₂ s₃ room) link_order n
  pub splits : (l : Link) (s : List ℕ) (room₁ room₂ room₃ n : ℕ) → Octets s
      → ((step l (down s room₁ room₂ room₃)).0 ≡ refusal n) ↔ FirstOf (DownFault l s room₁ room₂ room₃) refusal_order n
  -- "1 gives type 15, quality 0", whatever the sub-flows are
  pub no_data : (l : Link) (rfci : ℕ) (s₁ s₂ s₃ : List ℕ) (room : ℕ)
      → ((n : ℕ) → (step l (up 1 rfci s₁ s₂ s₃ room)).0 ≡ refusal n → ⊥)
      → (step l (up 1 rfci s₁ s₂ s₃ room)).0 ≡ frame (layout if1 no_data_bad)
