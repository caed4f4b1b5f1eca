-- The calls of the link (document 01, "The link", "Refused because of the state" and "Order"; TS 26.202, 6.2 and 6.3).
use Rattle.std.specs.Prelude.{Bool, true, not, ◌&&◌, cond, List, [], ◌∷◌, ◌++◌, ℕ, ◌+◌, ◌-◌, ◌*◌, ◌%◌, eqb, leb, length, take, drop}
use Rattle.bits.specs.Bits.{clear, bits, pack, octets_for}
use Rattle.definitions.specs.Outcome.{Outcome, refused, ok, unless, and_then}
use Rattle.definitions.specs.Frames.{if1, highest_mode, sid_type, no_data_type, Frame, frame_by, octets, layout, fields_good}
use Rattle.definitions.specs.Reading.{read_with}
use Rattle.recordings.specs.Conversion.{with_modes}
use Rattle.links.specs.declared.Combination.{Combination}
use Rattle.links.specs.declared.RfcSet.{RfcSet}
use Rattle.links.specs.declared.Link.{Link}
use Rattle.links.specs.Sets.{highest_rfci, combination, set_good, combinations, rfc_set, by_rfci, by_type, lookup}

-- ---- the state

-- no request has been forwarded; RFC 4867's number for no mode request
abbrev pub no_request : ℕ
no_request = 15

abbrev pub link_by : RfcSet → (request forwarded : ℕ) → Link
link_by s r f = record { set = s; request = r; forwarded = f }

-- "no set", "the stored request, 0 at first; the last request forwarded, none at first"
abbrev pub fresh_link : Link
fresh_link = link_by (rfc_set []) 0 no_request

-- refusals 14 and 15
abbrev pub has_set : Link → Bool
has_set l = leb 1 l.set.count

-- ---- Assign, Release, Rate command

-- the combinations that numbers write, five for each: RFCI, type and three sizes
abbrev pub in_fives : List ℕ → List Combination
in_fives (i ∷ t ∷ a ∷ b ∷ c ∷ ns) = combination i t a b c ∷ in_fives ns
in_fives [] = []
in_fives (i ∷ []) = []
in_fives (i ∷ t ∷ []) = []
in_fives (i ∷ t ∷ a ∷ []) = []
in_fives (i ∷ t ∷ a ∷ b ∷ []) = []

-- "Assign: stores the rows": 11, then 15
unfoldable pub assign_call : Link → List ℕ → Outcome Link
assign_call l ns =
    unless 11 (eqb (length ns % 5) 0 && set_good (in_fives ns))
    (unless 15 (not (has_set l))
    (ok (link_by (rfc_set (in_fives ns)) l.request l.forwarded)))

-- "Release: back to no set, the two requests kept"
unfoldable pub release_call : Link → Outcome Link
release_call l = unless 14 (has_set l) (ok (link_by (rfc_set []) l.request l.forwarded))

-- "Rate command 0 to 8: becomes the stored request, with a set or without"
unfoldable pub rate_call : Link → (mode : ℕ) → Outcome Link
rate_call l m = unless 11 (leb m highest_mode) (ok (link_by l.set m l.forwarded))

-- the state after one of them; a refused call leaves it
abbrev pub link_after : Outcome Link → Link → Link
link_after (refused n) l = l
link_after (ok m) l = m

-- ---- Up: three sub-flows become an IF1 frame

-- "each in its own buffer of exactly its octets", filling bits 0
abbrev pub subflow_good : (size : ℕ) → List ℕ → Bool
subflow_good n s = eqb (length s) (octets_for n) && clear (8 * length s - n) (drop n (bits s))

abbrev pub subflows_good : Combination → (s₁ s₂ s₃ : List ℕ) → Bool
subflows_good c s₁ s₂ s₃ = subflow_good c.size1 s₁ && (subflow_good c.size2 s₂ && subflow_good c.size3 s₃)

abbrev pub joined : Combination → (s₁ s₂ s₃ : List ℕ) → List Bool
joined c s₁ s₂ s₃ = take c.size1 (bits s₁) ++ (take c.size2 (bits s₂) ++ take c.size3 (bits s₃))

-- "0 gives quality 1; 2 gives quality 0"; "the stored request and indication as in conversion"
abbrev pub up_frame : (request fqc : ℕ) → Combination → (s₁ s₂ s₃ : List ℕ) → Frame
up_frame r fqc c s₁ s₂ s₃ = with_modes r (frame_by c.frame_type (cond (eqb fqc 0) 1 0) 0 0 (joined c s₁ s₂ s₃))

-- "1 gives type 15, quality 0"
abbrev pub no_data_bad : Frame
no_data_bad = frame_by no_data_type 0 0 0 []

-- a frame written into room octets: 6 as in a call that builds a frame, then 10
abbrev pub frame_written : Frame → (room : ℕ) → Outcome (List ℕ)
frame_written x room = unless 6 (fields_good if1 x) (unless 10 (leb (octets if1 x.type) room) (ok (layout if1 x)))

-- 11, 14, 13, 16, 17, 6, 10; with FQC 1 "the sub-flows unread and unjudged, the RFCI still judged"
unfoldable pub up_call : Link → (fqc rfci : ℕ) → (s₁ s₂ s₃ : List ℕ) → (room : ℕ) → Outcome (List ℕ)
up_call l fqc rfci s₁ s₂ s₃ room =
    unless 11 (leb fqc 3 && leb rfci highest_rfci)
    (unless 14 (has_set l)
    (unless 13 (leb fqc 2)
    (and_then (lookup by_rfci rfci (combinations l.set))
    (λ c.
    cond (eqb fqc 1) (frame_written no_data_bad room)
    (unless 17 (subflows_good c s₁ s₂ s₃)
    (frame_written (up_frame l.request fqc c s₁ s₂ s₃) room))))))

-- ---- Down: an IF1 frame becomes three sub-flows

pub data Forward : Type 0 where
  nothing : Forward
  request : ℕ → Forward

-- FQC, RFCI, the packed sub-flows, and the request that is forwarded, if one is
pub record Down : Type 0 where
  pub fqc : ℕ
  pub rfci : ℕ
  pub flow1 : List ℕ
  pub flow2 : List ℕ
  pub flow3 : List ℕ
  pub forward : Forward

-- "For types 0 to 9 a request unlike the last forwarded one is forwarded"
abbrev pub forwards : (last : ℕ) → Frame → Bool
forwards last x = leb x.type sid_type && not (eqb x.request last)

-- "FQC (0 good, 1 bad), its row's RFCI, and the sub-flows"; "sub-flow 3 starts at size 1 + size 2"
abbrev pub split : Link → Combination → Frame → Down
split l c x = record {
  fqc = cond (eqb x.quality 1) 0 1;
  rfci = c.rfci;
  flow1 = pack (take c.size1 x.core);
  flow2 = pack (take c.size2 (drop c.size1 x.core));
  flow3 = pack (take c.size3 (drop (c.size1 + c.size2) x.core));
  forward = cond (forwards l.forwarded x) (request x.request) nothing;
}

-- the three buffers have room
abbrev pub roomy : Combination → (room₁ room₂ room₃ : ℕ) → Bool
roomy c m₁ m₂ m₃ = leb (octets_for c.size1) m₁ && (leb (octets_for c.size2) m₂ && leb (octets_for c.size3) m₃)

-- of a frame that was read: 16, 10
abbrev pub down_frame : Link → Frame → (room₁ room₂ room₃ : ℕ) → Outcome Down
down_frame l x m₁ m₂ m₃ =
    and_then (lookup by_type x.type (combinations l.set)) (λ c. unless 10 (roomy c m₁ m₂ m₃) (ok (split l c x)))

-- 14, then the frame by 1 to 7 as in a call for one frame, 16, 10
unfoldable pub down_call : Link → List ℕ → (room₁ room₂ room₃ : ℕ) → Outcome Down
down_call l s m₁ m₂ m₃ = unless 14 (has_set l) (and_then (read_with true if1 s) (λ y. down_frame l y.0 m₁ m₂ m₃))

-- "and recorded"
abbrev pub recorded : Forward → Link → Link
recorded nothing l = l
recorded (request r) l = link_by l.set l.request r

-- the state after it; a refused call leaves it
abbrev pub down_after : Outcome Down → Link → Link
down_after (refused n) l = l
down_after (ok d) l = recorded d.forward l
