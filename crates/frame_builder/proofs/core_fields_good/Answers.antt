-- `frame_builder::core_fields_good` meets its contract: a SID frame's core has five octets, with the mode at its end. Assumes nothing.
use mathlib.Core.Path.{ap, ◌∙◌}
use native.Mathlib.Omega.{arith}
use Rattle.bits.specs.Bits.{octets_for}
use Rattle.definitions.specs.Frames.{core_bits}
use Rattle.definitions.specs.Reading.{buffer_core}
use Rattle.frame.proofs.TableLaws.{sid-core}
use Rattle.frame_builder.proofs.BuilderLaws.{mode-within}
use Rattle.frame_builder.proofs.core_fields_good.Goals.{then-t-eq-SID, else-t-eq-SID}
use Rattle.frame_builder.proofs.core_fields_good.Goals as goal

pub field_at-mode-requires : goal.field_at-mode-requires
field_at-mode-requires c =
    let l = c.requires ∙ ap octets_for (ap core_bits c.if-t-eq-SID.true ∙ sid-core) in
    (omega arith, omega arith)

pub returns : goal.returns
returns c =
    λ q.
    let a = c.args in
    c.fields_good.ensures q (buffer_core a.core.now a.t) (λ e. c.from.ensures ∙ elim c.if-t-eq-SID.branch [
      | then-t-eq-SID w ↦ w.mode-is ∙ mode-within a.core.now a.t _ e w.field_at-mode.ensures
      | else-t-eq-SID w ↦ absurd (w.if-t-eq-SID.false e)
    ])
