-- The counts are those of the lines passed, and none of these is past a limit.
use Rattle.sheet.specs.Format.{base}
use Rattle.walk_cells.specs.Cells.{lines_of}
use Rattle.row4_counting.specs.WalkLaws.{Counted}
use Rattle.row4_counting.proofs.searched.Given as goal

abbrev pub invariant-loop-i : goal.invariant-loop-i
invariant-loop-i l = Counted base (lines_of l.fn.t) l.i l.tally
