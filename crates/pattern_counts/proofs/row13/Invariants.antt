-- No line passed is miscounted, and the parts of the lists that they end are counted.
use Rattle.std.proofs.Common.{◌≡◌, List}
use Rattle.sheet.specs.Sheet.{first}
use Rattle.walk_cells.specs.Cells.{lines_of}
use Rattle.model.specs.Decl.{Decl}
use Rattle.meaning_patterns.specs.Patterns.{row13}
use Rattle.pattern_counts.specs.Counts.{Fielded, PartCounts}
use Rattle.pattern_counts.proofs.row13.Given as goal

abbrev pub invariant-loop-i : goal.invariant-loop-i
invariant-loop-i l = record {
  none : (ds : List Decl) → Fielded ds l.fn.fields → first (row13 ds (lines_of l.fn.q)) l.i ≡ l.i;
  counts : PartCounts (lines_of l.fn.q) l.i l.ends;
}
