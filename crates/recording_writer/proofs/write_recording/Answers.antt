-- `recording_writer::write_recording` meets its contract: towards its own format a recording is what a conversion writes. Assumes nothing.
use mathlib.Core.Path.{sym, ap, ◌∙◌}
use mathlib.Core.List.{◌++◌}
use lib.ListN.{length, drop}
use Rattle.definitions.specs.Reading.{overwritten}
use Rattle.frame.specs.Answers.{format_of}
use Rattle.recording_writer.proofs.CopyLaws.{same_is, copied-whole, copied_room}
use Rattle.recording_writer.proofs.write_recording.Goals as goal

pub slice_bounds-copy-end : goal.slice_bounds-copy-end
slice_bounds-copy-end c =
    (copied_room _ _ _ _ _ _ (λ i. (c.type_inv.s i).fits) (same_is c.args.c.from c.args.c.to (sym c.eq.ensures ∙ c.if-eq.true)) c.requires.1).0

pub slice_bounds-copy-end-then-eq : goal.slice_bounds-copy-end-then-eq
slice_bounds-copy-end-then-eq c =
    (copied_room _ _ _ _ _ _ (λ i. (c.type_inv.s i).fits) (same_is c.args.c.from c.args.c.to (sym c.eq.ensures ∙ c.if-eq.true)) c.requires.1).1

pub copy-requires : goal.copy-requires
copy-requires c =
    sym (copied_room _ _ _ _ _ _ (λ i. (c.type_inv.s i).fits) (same_is c.args.c.from c.args.c.to (sym c.eq.ensures ∙ c.if-eq.true)) c.requires.1).1

pub returns-then-eq : goal.returns-then-eq
returns-then-eq c =
    λ xs p.
    let a = c.args in
    let e = same_is a.c.from a.c.to (sym c.eq.ensures ∙ c.if-eq.true) in
    ap (λ w. w ++ drop (length a.s.now) a.out.now) c.copy.ensures
    ∙ ap (λ w. overwritten w a.out.now) (sym (copied-whole (format_of a.c.from) (format_of a.c.to) a.c.request a.s.now xs (λ i. (c.type_inv.s i).fits) e p.read))
