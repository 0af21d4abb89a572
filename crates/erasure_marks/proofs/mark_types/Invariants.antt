-- The marks of the types passed are right.
use Rattle.std.proofs.Common.{◌≤◌, max}
use Rattle.table_access.specs.Tables.{lines_in}
use Rattle.erasure_marks.specs.Marks.{marks_of, Marks}
use Rattle.erasure_marks.proofs.mark_types.Given as goal

abbrev pub invariant-loop-y : goal.invariant-loop-y
invariant-loop-y l = record { marks : Marks (lines_in l.t) (marks_of l.decl) l.node l.member l.y; last : l.y ≤ max l.right l.end }
