-- The declarations passed have their F lines.
use Rattle.table_access.specs.Tables.{lines_in}
use Rattle.collapse_candidates.specs.Candidates.{Partly}
use Rattle.collapse_candidates.proofs.candidates.Given as goal

abbrev pub invariant-loop-d : goal.invariant-loop-d
invariant-loop-d l = Partly (lines_in l.t) l.fields l.d
