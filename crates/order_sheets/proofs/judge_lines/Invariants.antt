-- `order_sheets::judge_lines` meets its contract: the lines so far and those to come make the answer. Assumes nothing.
use Rattle.order_sheets.proofs.TestLaws.{Tested}
use Rattle.order_sheets.proofs.judge_lines.Given as goal

abbrev pub invariant-loop-j : goal.invariant-loop-j
invariant-loop-j l = Tested l.s l.k l.j l.rest l.complete l.seen
