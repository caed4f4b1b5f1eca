-- What is asked where a frame is carried over to another format, and where its core begins an octet there.
use Rattle.std.specs.Prelude.{◌≡◌, Bool, false, ◌≢◌, List, ◌++◌, ℕ, ◌+◌, ◌-◌, ◌*◌, ◌≤◌, length, take, drop, replicate}
use Rattle.bits.specs.Bits.{bits, packs}
use Rattle.definitions.specs.Frames.{Format, if1, if2, storage, Frame, octets}
use Rattle.definitions.specs.Claims.{Begins}

-- the first octet that holds nothing but core, of types 0 to 9
abbrev pub core_at : Format → ℕ
core_at if1 = 3
core_at if2 = 1
core_at storage = 1

-- what the octets from there on hold
abbrev pub behind : Format → List Bool → List Bool
behind if1 core = core
behind if2 core = drop 3 core
behind storage core = core

-- from bit a on, the source has the bits w, and then zeros to the end of octet c
pub record Ends (src : List ℕ) (a c : ℕ) (w : List Bool) (z : ℕ) (r : List Bool) : Type 0 where
  pub stream : drop a (bits src) ≡ w ++ (replicate z false ++ r)
  pub border : 8 * c + 8 ≡ length w + z + a

-- the source begins with the valid frame x, and the output has room for it in the format g
pub record Carriable (f g : Format) (src : List ℕ) (x : Frame) (out : List ℕ) : Type 0 where
  pub others : f ≢ g
  pub begins : Begins f src x (octets f x.type)
  pub room : octets g x.type ≤ length out

-- the output holds the core of the frame that the source begins with; the octets in front of it, and those behind the frame, stay
abbrev pub CoreMoved : (f g : Format) → ℕ → (src out₀ out : List ℕ) → Type 0
CoreMoved f g t src out₀ out =
    (x : Frame) → x.type ≡ t → Carriable f g src x out₀
    → out ≡ take (core_at g) out₀ ++ (packs (octets g t - core_at g) (behind g x.core) ++ drop (octets g t) out₀)
