-- What is counted before a line is right.
use Rattle.walk_cells.specs.Cells.{lines_of}
use Rattle.row4_counting.specs.Quickly.{Right}
use Rattle.row4_counting.proofs.quickly.Given as goal

abbrev pub invariant-loop-i : goal.invariant-loop-i
invariant-loop-i l = Right (lines_of l.fn.t) l.i l.q
