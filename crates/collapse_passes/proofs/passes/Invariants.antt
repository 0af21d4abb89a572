-- The declarations passed have their types.
use Rattle.table_access.specs.Tables.{lines_in}
use Rattle.collapse_passes.specs.Passes.{Partly}
use Rattle.collapse_passes.proofs.passes.Given as goal

abbrev pub invariant-loop-d : goal.invariant-loop-d
invariant-loop-d l = Partly (lines_in l.t) l.bodies l.d
