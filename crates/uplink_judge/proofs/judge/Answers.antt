-- `uplink_judge::judge` meets its contract: what is behind the tests of the definition is left to write. Assumes nothing.
use borrow.Author.Rules.{rules}
use mathlib.Core.Path.{sym, ◌∙◌}
use Rattle.links.specs.Answers.{fqc_number}
use Rattle.uplink_judge.proofs.JudgeLaws.{bad_test, judges-refused, judges_bad, judges-subflows, judges-right, number-refused, judges_number}
use Rattle.uplink_judge.proofs.judge.Goals as goal

pub returns-in_err-q : goal.returns-in_err-q
returns-in_err-q c =
    let a = c.args in
    number-refused a.fqc _ c.try_from.ensures _ c.in_err-q.was a.link a.rfci a.s.s1.now a.s.s2.now a.s.s3.now _ (search rules)

pub returns-in_err-c : goal.returns-in_err-c
returns-in_err-c c =
    let a = c.args in
    let q = c.in_ok-q.q in
    judges_number a.fqc _ c.try_from.ensures q c.in_ok-q.was a.link a.rfci a.s.s1.now a.s.s2.now a.s.s3.now _
    (judges-refused a.link (fqc_number q) a.rfci a.s.s1.now a.s.s2.now a.s.s3.now _ c.in_err-c.field-0.0 (search rules) c.in_err-c.ensures)

pub returns-then-eq : goal.returns-then-eq
returns-then-eq c =
    let a = c.args in
    let q = c.in_ok-q.q in
    judges_number a.fqc _ c.try_from.ensures q c.in_ok-q.was a.link a.rfci a.s.s1.now a.s.s2.now a.s.s3.now _
    (judges_bad a.link (fqc_number q) a.rfci a.s.s1.now a.s.s2.now a.s.s3.now c.in_ok-c.c c.in_ok-c.ensures (sym (c.if-eq.ensures ∙ bad_test q)))

pub returns-then-not-subflows_good : goal.returns-then-not-subflows_good
returns-then-not-subflows_good c =
    let a = c.args in
    let q = c.in_ok-q.q in
    judges_number a.fqc _ c.try_from.ensures q c.in_ok-q.was a.link a.rfci a.s.s1.now a.s.s2.now a.s.s3.now _
    (judges-subflows a.link (fqc_number q) a.rfci a.s.s1.now a.s.s2.now a.s.s3.now c.in_ok-c.c c.in_ok-c.ensures (sym (c.if-eq.ensures ∙ bad_test q)) (sym c.if-not-subflows_good.ensures))

pub returns : goal.returns
returns c =
    let a = c.args in
    let q = c.in_ok-q.q in
    judges_number a.fqc _ c.try_from.ensures q c.in_ok-q.was a.link a.rfci a.s.s1.now a.s.s2.now a.s.s3.now _
    (judges-right a.link (fqc_number q) a.rfci a.s.s1.now a.s.s2.now a.s.s3.now c.in_ok-c.c c.in_ok-c.ensures (sym (c.if-eq.ensures ∙ bad_test q))
    (sym c.if-not-subflows_good.ensures) c.then_some.result _ c.from-has_core.ensures c.then_some.ensures)
