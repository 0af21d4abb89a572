-- The declarations that were passed stand before their ends.
use Rattle.std.proofs.Common.{length}
use Rattle.form_tables.specs.Bounds.{Ended}
use Rattle.form_tables.proofs.rank_bounds.ends.Given as goal

abbrev pub invariant-loop-d : goal.invariant-loop-d
invariant-loop-d l = Ended l.rank l.d (length l.rank) (length l.initial.end) l.end
