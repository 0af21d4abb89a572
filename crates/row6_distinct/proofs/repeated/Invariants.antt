-- The arrays have the last group of each name passed, and no line passed repeats one.
use Rattle.std.proofs.Common.{◌≡◌}
use Rattle.sheet.specs.Sheet.{first}
use Rattle.walk_cells.specs.Cells.{lines_of}
use Rattle.row6_distinct.specs.Ways.{repeated_any, ctor_marks, field_marks}
use Rattle.row6_distinct.specs.DistinctLaws.{Seen}
use Rattle.row6_distinct.proofs.repeated.Given as goal

abbrev pub invariant-loop-i : goal.invariant-loop-i
invariant-loop-i l = record {
  seen : Seen (lines_of l.fn.t) l.i l.g l.declared l.params (field_marks l.members) (ctor_marks l.members);
  none : first (repeated_any (lines_of l.fn.t)) l.i ≡ l.i;
}
