-- Every line passed is as it should be, and `d` is the declaration of the last of them.
use Rattle.std.proofs.Common.{◌≡◌}
use Rattle.sheet.specs.Sheet.{first}
use Rattle.walk_cells.specs.Cells.{lines_of}
use Rattle.meaning.specs.Rows.{row7}
use Rattle.row7_verdicts.specs.VerdictsLaws.{In}
use Rattle.row7_verdicts.proofs.row7.Given as goal

abbrev pub invariant-loop-i : goal.invariant-loop-i
invariant-loop-i l = record {
  in_it : In (lines_of l.fn.t) l.i l.d;
  none : first (row7 (lines_of l.fn.t)) l.i ≡ l.i;
}
