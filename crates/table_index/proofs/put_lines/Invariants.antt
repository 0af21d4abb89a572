-- The lines passed stand in the index.
use Rattle.table_access.specs.Tables.{lines_in}
use Rattle.table_index.specs.Index.{Reached}
use Rattle.table_index.proofs.put_lines.Given as goal

abbrev pub invariant-loop-i : goal.invariant-loop-i
invariant-loop-i l = Reached (lines_in l.fn.t) l.t l.i l.c
