-- What is said of a frame: document 01's values; and what is put into the three buffers.
use Rattle.std.specs.Prelude.{◌≡◌, Bool, List, ◌++◌, ℕ, ◌+◌, length, take, drop, Option, Some, None}
use Rattle.bits.specs.Bits.{pack, octets_for}
use Rattle.links.specs.declared.Combination.{Combination}
use Rattle.links.specs.Calls as paper
use Rattle.downlink_flows.specs.declared.Subflows.{Subflows}

-- what is answered in numbers: the sub-flows by their octets
pub record Numbers : Type 0 where
  pub fqc : ℕ
  pub rfci : ℕ
  pub octets1 : ℕ
  pub octets2 : ℕ
  pub octets3 : ℕ
  pub forward : paper.Forward

abbrev pub numbers : paper.Down → Numbers
numbers d = record {
  fqc = d.fqc;
  rfci = d.rfci;
  octets1 = length d.flow1;
  octets2 = length d.flow2;
  octets3 = length d.flow3;
  forward = d.forward;
}

abbrev pub forward_of : Option ℕ → paper.Forward
forward_of None = paper.nothing
forward_of (Some r) = paper.request r

abbrev pub subflows_of : Subflows → Numbers
subflows_of s = record {
  fqc = s.fqc;
  rfci = s.rfci;
  octets1 = s.octets1;
  octets2 = s.octets2;
  octets3 = s.octets3;
  forward = forward_of s.forward;
}

-- the bits of a core are put into the three buffers
pub record SubflowsPut (k : Combination) (core : List Bool) (a₀ a b₀ b c₀ c : List ℕ) : Type 0 where
  pub flow1 : a ≡ pack (take k.size1 core) ++ drop (octets_for k.size1) a₀
  pub flow2 : b ≡ pack (take k.size2 (drop k.size1 core)) ++ drop (octets_for k.size2) b₀
  pub flow3 : c ≡ pack (take k.size3 (drop (k.size1 + k.size2) core)) ++ drop (octets_for k.size3) c₀
