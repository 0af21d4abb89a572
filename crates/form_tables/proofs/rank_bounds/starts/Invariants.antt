-- From declaration d on each stands at its start or behind it.
use Rattle.std.proofs.Common.{length}
use Rattle.form_tables.specs.Bounds.{Started}
use Rattle.form_tables.proofs.rank_bounds.starts.Given as goal

abbrev pub invariant-loop-d : goal.invariant-loop-d
invariant-loop-d l = Started l.rank l.d (length l.initial.start) l.start
