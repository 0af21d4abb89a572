-- The lines passed have their places.
use Rattle.walk_cells.specs.Cells.{lines_of}
use Rattle.pattern_owners.specs.Places.{PlacedTo}
use Rattle.pattern_owners.proofs.places.Given as goal

abbrev pub invariant-loop-i : goal.invariant-loop-i
invariant-loop-i l = PlacedTo (lines_of l.fn.q) l.place l.i
