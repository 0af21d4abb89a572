-- No number passed is stray.
use Rattle.std.proofs.Common.{◌≡◌}
use Rattle.sheet.specs.Sheet.{first}
use Rattle.walk_cells.specs.Cells.{lines_of}
use Rattle.meaning.specs.Rows.{nth_line}
use Rattle.row5_ranges.specs.UnusedLaws.{stray}
use Rattle.row5_ranges.proofs.unused.zeros_from.Given as goal

abbrev pub invariant-loop-j : goal.invariant-loop-j
invariant-loop-j l = first (stray l.fn.k (nth_line (lines_of l.fn.t) l.fn.i)) l.j ≡ l.j
