-- `table::octets_by_bits` meets its contract: header and core are packed. Assumes nothing.
use mathlib.Core.Path.{sym, ap₂, ◌∙◌}
use Prim.Native.Nat.{ℕ, ◌+◌}
use Rattle.bits.specs.Bits.{octets_for}
use Rattle.definitions.proofs.Tables.{known-below, sized}
use Rattle.frame.specs.Answers.{format_of}
use Rattle.frame.proofs.table.octets_by_bits.Goals as goal

pub core_bits-requires : goal.core_bits-requires
core_bits-requires c =
    known-below c.args.t c.requires

pub returns : goal.returns
returns c =
    ap₂ (λ (h k : ℕ). octets_for (h + k)) c.header_bits.ensures.0 c.core_bits.ensures.0 ∙ sym (sized (format_of c.args.f) c.args.t c.requires).packed
