-- The constructors of the declarations passed are there.
use Rattle.table_access.specs.Tables.{lines_in}
use Rattle.pattern_ctors.specs.Sites.{SitedFrom}
use Rattle.pattern_ctors.proofs.fill.Given as goal

abbrev pub invariant-loop-d : goal.invariant-loop-d
invariant-loop-d l = SitedFrom (lines_in l.t) l.m l.d
