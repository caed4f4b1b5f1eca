-- `link_state::set_in` meets its contract: the combinations of the rows so far are good, and stored in the first places. Assumes nothing.
use Rattle.std.proofs.Common.{◌≡◌, ◌+◌, length, sym, ap, ◌∙◌, Some, map, take, arith}
use Rattle.std.proofs.lemmas.Bool.Decides.{nat_tests}
use Rattle.links.specs.Sets.{all_good}
use Rattle.link_state.specs.Answers.{five}
use Rattle.link_state.proofs.RowLaws.{stored, not_good, not_apart, wrong, right}
use Rattle.link_state.proofs.set_in.Goals as goal

pub returns-in_err-c : goal.returns-in_err-c
returns-in_err-c c =
    let k = c.as_chunks.ensures in
    let l = c.loop-n in
    c.from_residual.ensures
    ∙ wrong c.args.numbers.now _ k.front k.front_len (grind (arith, nat_tests)) (l.n + 1)
    (not_good _ c.if-rows-gt-PLACES.false l.n c.loop-n-test.true l.places l.invariant.held l.invariant.good c.in_err-c.ensures)

pub returns-then-not-is_apart : goal.returns-then-not-is_apart
returns-then-not-is_apart c =
    let k = c.as_chunks.ensures in
    let l = c.loop-n in
    wrong c.args.numbers.now _ k.front k.front_len (grind (arith, nat_tests)) (l.n + 1)
    (not_apart _ c.if-rows-gt-PLACES.false l.n c.loop-n-test.true l.places l.invariant.held l.invariant.good
    c.in_ok-c.c c.in_ok-c.ensures c.if-not-is_apart.ensures)

pub returns : goal.returns
returns c =
    let k = c.as_chunks.ensures in
    let l = c.loop-n in
    let rows = c.as_chunks.result.0.now in
    let e : l.n ≡ length rows = omega arith in
    ap (λ ps. Some (record { places = ps; count = length rows })) (l.invariant.held ∙ ap (λ n. stored n rows) e)
    ∙ right c.args.numbers.now rows k.front k.front_len (grind (arith, nat_tests)) (grind (arith, nat_tests)) c.if-rows-gt-PLACES.false
    (ap (λ n. all_good (map five (take n rows))) (sym e) ∙ l.invariant.good)
