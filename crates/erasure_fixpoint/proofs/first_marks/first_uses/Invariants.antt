-- What the types passed use, from the last type down.
use Rattle.table_access.specs.Tables.{lines_in}
use Rattle.erasure_laws.specs.FixpointLaws.{UsedFrom}
use Rattle.erasure_fixpoint.proofs.first_marks.first_uses.Given as goal

abbrev pub invariant-loop-y : goal.invariant-loop-y
invariant-loop-y l = UsedFrom (lines_in l.t) l.used l.y
