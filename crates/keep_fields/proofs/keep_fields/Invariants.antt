-- The declarations passed have their fields.
use Rattle.table_access.specs.Tables.{lines_in}
use Rattle.keep_fields.specs.Keeps.{Kept}
use Rattle.keep_fields.proofs.keep_fields.Given as goal

abbrev pub invariant-loop-d : goal.invariant-loop-d
invariant-loop-d l = Kept (lines_in l.t) l.keep l.d
