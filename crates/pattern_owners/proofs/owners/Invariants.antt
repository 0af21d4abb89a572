-- The parts that lines from line i on name are claimed.
use Rattle.std.proofs.Common.{◌≡◌}
use Rattle.walk_cells.specs.Cells.{lines_of}
use Rattle.pattern_laws.specs.Marks.{owners_from, owners_of}
use Rattle.pattern_owners.proofs.owners.Given as goal

abbrev pub invariant-loop-i : goal.invariant-loop-i
invariant-loop-i l = owners_from (lines_of l.fn.q) l.i l.own ≡ owners_of (lines_of l.fn.q)
