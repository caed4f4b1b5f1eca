-- `frame_reader::judge` meets its contract: each test is the definition's, and they are made in its order. Assumes nothing.
use mathlib.Core.Path.{◌≡◌, sym, ap, ◌∙◌}
use Rattle.bits.specs.Bits.{bits}
use Rattle.definitions.specs.Outcome.{ok}
use Rattle.definitions.specs.Frames.{core_in, frame_in, fields_good}
use Rattle.frame.specs.Answers.{format_of, frame_with}
use Rattle.frame_reader.proofs.ReaderLaws.{whole-there, header-same, refuses_4, refuses_5, refuses_6, refuses_7, reads}
use Rattle.frame_reader.proofs.judge.Goals.{After-header-h}
use Rattle.frame_reader.proofs.judge.Goals as goal

-- the header's frame is the frame that is read
header-there : (c : After-header-h)
    → (c.header-h.result.frame_type ≡ c.in_ok-x.x.frame_type)
    × (frame_with c.header-h.result (core_in (format_of c.in_ok-x.x.format) c.header-h.result.frame_type (bits c.in_ok-x.x.s.now)) ≡ frame_in (format_of c.in_ok-x.x.format) (bits c.in_ok-x.x.s.now))
header-there c =
    let x = c.in_ok-x.x in
    header-same (format_of x.format) (bits x.s.now) c.header-h.result x.frame_type x.type_is c.header-h.ensures

pub returns-then-not-ends : goal.returns-then-not-ends
returns-then-not-ends c =
    let x = c.in_ok-x.x in
    rw (← c.in_ok-x.ensures.0, ← c.in_ok-x.ensures.1) (refuses_4 c.args.single (format_of x.format) x.s.now _ _ (whole-there x) (sym c.ends.ensures ∙ c.if-not-ends.true))

pub returns-then-not-spare_clear : goal.returns-then-not-spare_clear
returns-then-not-spare_clear c =
    let x = c.in_ok-x.x in
    rw (← c.in_ok-x.ensures.0, ← c.in_ok-x.ensures.1) (refuses_5 c.args.single (format_of x.format) x.s.now _ _ (whole-there x) (sym c.ends.ensures ∙ c.if-not-ends.false)
    (sym c.spare_clear.ensures ∙ c.if-not-spare_clear.true))

pub header_good-requires : goal.header_good-requires
header_good-requires c =
    let x = c.in_ok-x.x in
    rw (header-there (goal.at.header_good-requires c).After-header-h).0 (rw (← x.size_is) x.enough)

pub returns-then-not-header_good : goal.returns-then-not-header_good
returns-then-not-header_good c =
    let x = c.in_ok-x.x in
    let f = format_of x.format in
    rw (← c.in_ok-x.ensures.0, ← c.in_ok-x.ensures.1) (refuses_6 c.args.single f x.s.now _ _ (whole-there x) (sym c.ends.ensures ∙ c.if-not-ends.false)
    (sym c.spare_clear.ensures ∙ c.if-not-spare_clear.false)
    (sym (c.header_good.ensures ∙ ap (fields_good f) (header-there (goal.at.returns-then-not-header_good c).After-header-h).1) ∙ c.if-not-header_good.true))

pub returns-then-not-crc_good : goal.returns-then-not-crc_good
returns-then-not-crc_good c =
    let x = c.in_ok-x.x in
    let f = format_of x.format in
    rw (← c.in_ok-x.ensures.0, ← c.in_ok-x.ensures.1) (refuses_7 c.args.single f x.s.now _ _ (whole-there x) (sym c.ends.ensures ∙ c.if-not-ends.false)
    (sym c.spare_clear.ensures ∙ c.if-not-spare_clear.false)
    (sym (c.header_good.ensures ∙ ap (fields_good f) (header-there (goal.at.returns-then-not-crc_good c).After-header-h).1) ∙ c.if-not-header_good.false)
    (sym c.crc_good.ensures ∙ c.if-not-crc_good.true))

pub returns : goal.returns
returns c =
    let x = c.in_ok-x.x in
    let f = format_of x.format in
    let h = header-there (goal.at.returns c).After-header-h in
    rw (← c.in_ok-x.ensures.0, ← c.in_ok-x.ensures.1) (ap (λ y. ok (y, x.size)) h.1
    ∙ reads c.args.single f x.s.now _ _ (whole-there x) (sym c.ends.ensures ∙ c.if-not-ends.false)
    (sym c.spare_clear.ensures ∙ c.if-not-spare_clear.false)
    (sym (c.header_good.ensures ∙ ap (fields_good f) h.1) ∙ c.if-not-header_good.false)
    (sym c.crc_good.ensures ∙ c.if-not-crc_good.false))
