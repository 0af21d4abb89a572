-- No line passed has the text, and those between have other keys.
use Rattle.row6_distinct.specs.Keys.{Clear}
use Rattle.row6_distinct.proofs.respellings.spelled_before.Given as goal

abbrev pub invariant-loop-c : goal.invariant-loop-c
invariant-loop-c l = Clear l.fn.s l.fn.i l.c

abbrev pub decreases-loop-c : goal.decreases-loop-c
decreases-loop-c l = l.c
