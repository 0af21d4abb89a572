-- The cells of the declarations passed are those of their verdicts.
use Rattle.state_names.specs.Cells.{Filled}
use Rattle.table_access.specs.Tables.{lines_in}
use Rattle.state_names.proofs.states.Given as goal

abbrev pub invariant-loop-d : goal.invariant-loop-d
invariant-loop-d l = Filled (lines_in l.t) l.vs l.d l.u
