-- A recording that keeps its format. Assumes nothing.
use mathlib.Core.Path.{◌≡◌, refl, sym, ap, ◌∙◌, subst}
use mathlib.Core.Bool.{true}
use mathlib.Core.List.{List}
use Prim.Native.Nat.{ℕ, ◌≤◌}
use native.Mathlib.Omega.{arith}
use lib.ListN.{length, take, length-take}
use Rattle.bits.specs.Bits.{Octets}
use Rattle.definitions.specs.Frames.{Format, Frame}
use Rattle.recordings.specs.Placed.{done}
use Rattle.recordings.specs.Recordings.{read_recording, write_recording}
use Rattle.recordings.specs.Conversion.{converted}
use Rattle.recordings.proofs.Claims.{reads_recordings}
use Rattle.recordings.proofs.Returning.{all_same}
use Rattle.frame.specs.Answers.{format_of}
use Rattle.frame.specs.contracts.Format.{the_type}
use Rattle.frame.specs.declared.Format.{Format as CodeFormat}
use Rattle.frame.specs.declared.Format.TheVariants.{If1, If2, Storage}
use denote.Enum.Bare.{sameb}
use Rattle.recording_writer.specs.Output.{Convertible}

-- ---- whether a recording keeps its format, as `==` tells

pub same_is : (f g : CodeFormat) → sameb the_type f g ≡ true → format_of f ≡ format_of g
same_is If1 If1 e = refl
same_is If1 If2 e = cc
same_is If1 Storage e = cc
same_is If2 If1 e = cc
same_is If2 If2 e = refl
same_is If2 Storage e = cc
same_is Storage If1 e = cc
same_is Storage If2 e = cc
same_is Storage Storage e = refl

-- ---- the copy

-- towards its own format a recording is what a conversion writes
pub copied-whole : (f g : Format) (r : ℕ) (s : List ℕ) (xs : List Frame) → Octets s → f ≡ g → read_recording f s ≡ done xs → converted f g r xs ≡ s
copied-whole f g r s xs o e h =
    let w = (reads_recordings.exactly f s xs o).0 h in
    subst (λ g. converted f g r xs ≡ s) e (ap (write_recording f) (all_same f r xs w.valid) ∙ sym w.laid)

-- and it has room there
pub copied_room : (f g : Format) (r : ℕ) (s : List ℕ) (xs : List Frame) (out : List ℕ) → Octets s → f ≡ g → Convertible f g r s xs out
    → (length s ≤ length out) × (length s ≡ length (take (length s) out))
copied_room f g r s xs out o e c =
    let h : length s ≤ length out = omega (arith, c.room, ap length (copied-whole f g r s xs o e c.read)) in
    (h, omega (arith, length-take (length s) out))
