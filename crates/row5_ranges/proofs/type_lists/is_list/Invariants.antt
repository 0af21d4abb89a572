-- No A line passed is too high.
use Rattle.std.proofs.Common.{◌≡◌}
use Rattle.sheet.specs.Sheet.{first}
use Rattle.walk_cells.specs.Cells.{lines_of}
use Rattle.row5_ranges.specs.TypeLists.{types_of}
use Rattle.row5_ranges.specs.TypeListsLaws.{too_high}
use Rattle.row5_ranges.proofs.type_lists.is_list.Given as goal

abbrev pub invariant-loop-j : goal.invariant-loop-j
invariant-loop-j l = first (too_high (types_of (lines_of l.fn.t)) l.fn.y l.fn.at) l.j ≡ l.j
