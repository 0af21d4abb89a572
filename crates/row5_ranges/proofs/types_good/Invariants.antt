-- Every line passed is as it should be.
use Rattle.std.proofs.Common.{◌≡◌}
use Rattle.sheet.specs.Sheet.{first}
use Rattle.walk_cells.specs.Cells.{lines_of}
use Rattle.meaning.specs.Rows.{row5}
use Rattle.row5_ranges.proofs.types_good.Given as goal

abbrev pub invariant-loop-i : goal.invariant-loop-i
invariant-loop-i l = first (row5 (lines_of l.fn.t)) l.i ≡ l.i
