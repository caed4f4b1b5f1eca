-- The answers of level three's own calls as numbers. Every field that is not named for an answer is 0, and at a refusal every field but
-- its number and the link is; a refusal of a link's call carries frame and octet 0 (document 01, "Order").
use Rattle.std.specs.Prelude.{◌≡◌, List, ℕ}
use Rattle.definitions.specs.Outcome.{Outcome, refused, ok}
use Rattle.links.specs.declared.Link.{Link}
use Rattle.links.specs.Calls.{Forward, nothing, request, Down, down_after}
use Rattle.links.specs.History.{Reply, refusal, accepted, frame, subflows}
use Rattle.downlink_flows.specs.Answers.{Numbers}
use Rattle.downlink.specs.Answers.{in_numbers, flow_after}
use Rattle.link_answers.specs.declared.LinkAnswer.{LinkAnswer}
use Rattle.link_answers.specs.declared.DownNumbers.{DownNumbers}

abbrev pub refusal_number : Reply → ℕ
refusal_number (refusal n) = n
refusal_number accepted = 0
refusal_number (frame w) = 0
refusal_number (subflows d) = 0

abbrev pub link_numbers : Reply × Link → LinkAnswer
link_numbers m = record { refusal = refusal_number m.0; frame = 0; octet = 0; link = m.1 }

abbrev pub is_forwarded : Forward → ℕ
is_forwarded nothing = 0
is_forwarded (request r) = 1

abbrev pub request_forwarded : Forward → ℕ
request_forwarded nothing = 0
request_forwarded (request r) = r

-- what Down says of a frame, with the state after the call
abbrev pub down_numbers : Outcome Numbers → Link → DownNumbers
down_numbers (refused n) l = record {
  refusal = n;
  frame = 0;
  octet = 0;
  fqc = 0;
  rfci = 0;
  n1 = 0;
  n2 = 0;
  n3 = 0;
  forwarded = 0;
  request = 0;
  link = l;
}
down_numbers (ok d) l = record {
  refusal = 0;
  frame = 0;
  octet = 0;
  fqc = d.fqc;
  rfci = d.rfci;
  n1 = d.octets1;
  n2 = d.octets2;
  n3 = d.octets3;
  forwarded = is_forwarded d.forward;
  request = request_forwarded d.forward;
  link = l;
}

-- the answer, and the buffers, a₀, b₀ and c₀ before the call and a, b and c after it
pub record FlatDown (o : Outcome Down) (l : Link) (a₀ a b₀ b c₀ c : List ℕ) (r : DownNumbers) : Type 0 where
  pub answer : r ≡ down_numbers (in_numbers o) (down_after o l)
  pub buffer1 : a ≡ flow_after (λ y. y.flow1) o a₀
  pub buffer2 : b ≡ flow_after (λ y. y.flow2) o b₀
  pub buffer3 : c ≡ flow_after (λ y. y.flow3) o c₀
