-- `order_sheets::digits` meets its contract: what is left to read, from the value so far, is what the text holds. Assumes nothing.
use Rattle.order_sheets.proofs.NumberLaws.{ReadSoFar}
use Rattle.order_sheets.proofs.digits.Given as goal

abbrev pub invariant-loop-i : goal.invariant-loop-i
invariant-loop-i l = ReadSoFar l.end l.first l.s l.v l.i
