-- The lines passed have their marks.
use Rattle.walk_cells.specs.Cells.{lines_of}
use Rattle.table_access.specs.Tables.{lines_in}
use Rattle.pattern_marks.specs.Tables.{MarksTo}
use Rattle.pattern_marks.proofs.marks.Given as goal

abbrev pub invariant-loop-i : goal.invariant-loop-i
invariant-loop-i l = MarksTo (lines_in l.t) l.u l.m (lines_of l.q) l.marks l.i
