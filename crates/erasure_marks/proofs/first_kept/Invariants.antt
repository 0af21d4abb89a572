-- The members passed are marked.
use Rattle.table_access.specs.Tables.{lines_in}
use Rattle.erasure_marks.specs.Marks.{Before}
use Rattle.erasure_marks.proofs.first_kept.Given as goal

abbrev pub invariant-loop-j : goal.invariant-loop-j
invariant-loop-j l = Before (lines_in l.t) l.node l.first l.from → Before (lines_in l.t) l.node l.first l.j
