-- The names passed have their counts.
use Rattle.table_access.specs.Tables.{lines_in}
use Rattle.pattern_ctors.specs.Owners.{CountsTo}
use Rattle.pattern_ctors.proofs.counts.Given as goal

abbrev pub invariant-loop-n : goal.invariant-loop-n
invariant-loop-n l = CountsTo (lines_in l.t) l.fields l.n
