-- Every line passed is as it should be, and the lines that they name are marked.
use Rattle.std.proofs.Common.{◌≡◌}
use Rattle.sheet.specs.Sheet.{first}
use Rattle.walk_cells.specs.Cells.{lines_of}
use Rattle.pattern_rows.specs.Links.{row5, Marked}
use Rattle.pattern_rows.proofs.row5.Given as goal

abbrev pub invariant-loop-i : goal.invariant-loop-i
invariant-loop-i l = record {
  none : first (row5 l.fn.names (lines_of l.fn.q)) l.i ≡ l.i;
  marked : Marked (lines_of l.fn.q) l.i l.linked;
}
