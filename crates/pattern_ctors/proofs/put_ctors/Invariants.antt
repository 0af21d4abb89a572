-- The constructors passed are there, and f is the first F line of the last of them.
use Rattle.table_access.specs.Tables.{lines_in}
use Rattle.pattern_ctors.specs.SitesLaws.{Amid}
use Rattle.pattern_ctors.proofs.put_ctors.Given as goal

abbrev pub invariant-loop-c : goal.invariant-loop-c
invariant-loop-c l = Amid (lines_in l.t) l.m l.d l.c l.f
