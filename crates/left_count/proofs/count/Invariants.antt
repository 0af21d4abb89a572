-- What is counted of the first d declarations.
use Rattle.std.proofs.Common.{length}
use Rattle.table_access.specs.Tables.{lines_in}
use Rattle.left_count.specs.CountsLaws.{Upto}
use Rattle.left_count.proofs.count.Given as goal

abbrev pub invariant-loop-d : goal.invariant-loop-d
invariant-loop-d l = Upto (lines_in l.t) l.u l.keep (length l.fn.scratch) l.d l.c
