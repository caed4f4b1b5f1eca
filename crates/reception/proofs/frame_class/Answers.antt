-- `reception::frame_class` meets its contract: a SID frame's core has five octets, and STI is a bit of it; of another frame STI counts for
-- nothing. Assumes nothing.
use mathlib.Core.Path.{◌≡◌, refl, sym, ap, ◌∙◌}
use mathlib.Core.Bool.{Bool, false}
use mathlib.Core.List.{List}
use Prim.Native.Nat.{ℕ}
use native.Mathlib.Omega.{arith}
use lib.Dec.{eqb}
use lib.ListN.{get_or}
use lib.Seq.{get_or-take}
use borrow.Author.Tests.{ne_eqb}
use Rattle.bits.specs.Bits.{bits}
use Rattle.definitions.specs.Frames.{core_bits}
use Rattle.definitions.specs.Reading.{buffer_core}
use Rattle.definitions.specs.Reception.{class_of}
use Rattle.frame.proofs.TableLaws.{sid-core}
use Rattle.reception.proofs.frame_class.Goals.{then-t-eq-SID, else-t-eq-SID}
use Rattle.reception.proofs.frame_class.Goals as goal

sti_within : (core : List ℕ) (t : ℕ) → t ≡ 9 → get_or (bits core) 35 false ≡ get_or (buffer_core core t) 35 false
sti_within core t e = sym (get_or-take (core_bits t) (bits core) 35 false (omega (arith, ap core_bits e ∙ sid-core)))

any_sti : (t : ℕ) (good a b : Bool) → (t ≡ 9 → ⊥) → class_of t good a ≡ class_of t good b
any_sti t good a b n = rw (ne_eqb t 9 n) refl

pub bit_at-sti-requires : goal.bit_at-sti-requires
bit_at-sti-requires c = omega (arith, c.requires, ap core_bits (sym c.from-t.ensures ∙ c.if-t-eq-SID.true) ∙ sid-core)

pub returns : goal.returns
returns c =
    let h = c.args.h in
    let good = eqb h.quality 1 in
    c.class_of.ensures ∙ ap (λ t. class_of t good c.if-t-eq-SID.sti) c.from-t.ensures ∙ elim c.if-t-eq-SID.branch [
      | then-t-eq-SID w ↦
          ap (class_of h.frame_type good) (w.sti-is ∙ w.bit_at-sti.ensures ∙ sti_within c.args.core.now h.frame_type (sym c.from-t.ensures ∙ w.if-t-eq-SID.true))
      | else-t-eq-SID w ↦ any_sti h.frame_type good _ _ (λ e. w.if-t-eq-SID.false (c.from-t.ensures ∙ e))
    ]
