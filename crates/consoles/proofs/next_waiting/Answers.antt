-- `consoles::next_waiting` meets its contract: what is left of the search finds what the whole does. Assumes nothing.
use Rattle.std.proofs.Common.{◌≡◌, ◌+◌, ◌-◌, sym, ap, ap₂, ◌∙◌, arith}
use Rattle.consoles_spec.specs.Calls.{first_waiting}
use Rattle.consoles_spec.proofs.Search.{first_waiting_here, first_waiting_past, first_waiting_none}
use Rattle.consoles.proofs.next_waiting.Goals as goal

pub returns-then-consoles-at-gt0-clause-first : goal.returns-then-consoles-at-gt0-clause-first
returns-then-consoles-at-gt0-clause-first c =
    let w = c.args.consoles.waiting in
    let start = c.from-start.result in
    let k = c.loop-k.k in
    sym (first_waiting_here w (start + k) (8 - k) (omega (arith, c.loop-k-test.true)) c.if-consoles-at-gt0.true)
    ∙ c.loop-k.invariant.left
    ∙ ap (λ p. first_waiting w p 8) c.from-start.ensures

pub loop-k-preserved : goal.loop-k-preserved
loop-k-preserved c =
    let w = c.args.consoles.waiting in
    let start = c.from-start.result in
    let k = c.loop-k.k in
    record {
      left =
          ap₂ (first_waiting w) (let e : start + (k + 1) ≡ start + k + 1 = omega arith in e) (let e : 8 - (k + 1) ≡ 8 - k - 1 = omega arith in e)
          ∙ sym (first_waiting_past w (start + k) (8 - k) (omega (arith, c.loop-k-test.true)) c.if-consoles-at-gt0.false)
          ∙ c.loop-k.invariant.left;
    }

pub returns-clause-first : goal.returns-clause-first
returns-clause-first c =
    let w = c.args.consoles.waiting in
    let start = c.from-start.result in
    let k = c.loop-k.k in
    sym (first_waiting_none w (start + k) (8 - k) (omega (arith, c.loop-k-test.false)))
    ∙ c.loop-k.invariant.left
    ∙ ap (λ p. first_waiting w p 8) c.from-start.ensures
