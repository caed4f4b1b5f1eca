-- `order_sheets::write_lines` meets its contract: the numbers so far are written, and the other lines are left. Assumes nothing.
use Rattle.order_sheets.proofs.WriteLaws.{Written}
use Rattle.order_sheets.proofs.write_lines.Given as goal

abbrev pub invariant-loop-j : goal.invariant-loop-j
invariant-loop-j l = Written l.s l.fn.numbers l.j l.rest l.numbers
