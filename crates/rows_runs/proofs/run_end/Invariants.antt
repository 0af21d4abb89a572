-- The lines passed have the letter.
use Rattle.std.proofs.Common.{◌≡◌}
use Rattle.sheet.specs.Sheet.{first}
use Rattle.walk_cells.specs.Cells.{lines_of}
use Rattle.rows_runs.specs.RunsLaws.{ends}
use Rattle.rows_runs.proofs.run_end.Given as goal

abbrev pub invariant-loop-i : goal.invariant-loop-i
invariant-loop-i l = first (ends l.fn.letter (lines_of l.fn.t) l.fn.from) l.i ≡ l.i
