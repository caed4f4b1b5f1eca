-- `joins::split_frame` meets its contract: the type in the first octet is the first frame's. Assumes nothing.
use mathlib.Core.Path.{◌≡◌, sym, ap, ◌∙◌}
use mathlib.Core.List.{List, ◌∷◌}
use native.Mathlib.Omega.{arith}
use lib.ListN.{length, take}
use Rattle.definitions.specs.Frames.{Frame, octets, layout}
use Rattle.definitions.proofs.Tables.{known-below}
use Rattle.frame.specs.Answers.{format_of}
use Rattle.joins.specs.Answers.{Body}
use Rattle.joins.proofs.BodyLaws.{first-valid, first-type, first-size, first-some, first-within, first-laid, behind}
use Rattle.joins.proofs.split_frame.Goals as goal
use Rattle.joins.proofs.split_frame.Goals.{After-octets_of-n}

pub type_in-requires : goal.type_in-requires
type_in-requires c =
    let b = c.requires.2 in omega (arith, first-some _ _ _ b, first-within _ _ _ b)

pub octets_of-n-requires : goal.octets_of-n-requires
octets_of-n-requires c =
    let b = c.requires.2 in
    omega (arith, c.from.ensures, c.type_in.ensures, first-type _ _ _ b, known-below _ (first-valid _ _ _ b).type_known)

size : (c : After-octets_of-n) (x : Frame) (xs : List Frame) → Body (format_of c.args.f) c.args.s.now (x ∷ xs)
    → c.octets_of-n.result ≡ length (layout (format_of c.args.f) x)
size c x xs b =
    c.octets_of-n.ensures.0 ∙ ap (octets (format_of c.args.f)) (c.from.ensures ∙ c.type_in.ensures ∙ first-type _ x xs b) ∙ sym (first-size _ x xs b)

pub split_at-requires : goal.split_at-requires
split_at-requires c =
    let b = c.requires.2 in omega (arith, size (goal.at.split_at-requires c).After-octets_of-n _ _ b, first-within _ _ _ b)

pub returns : goal.returns
returns c =
    λ x xs b.
    let n = size (goal.at.returns c).After-octets_of-n x xs b in (
      c.split_at.ensures.front ∙ ap (λ n. take n c.args.s.now) n ∙ first-laid _ x xs b,
      rw (c.split_at.ensures.back, n) (behind _ x xs b),
    )
