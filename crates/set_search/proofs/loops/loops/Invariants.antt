-- The first k nodes have their marks.
use Rattle.std.proofs.Common.{length}
use Rattle.set_search.specs.Search as spec
use Rattle.set_search.specs.Loops.{Looped}
use Rattle.set_search.proofs.loops.loops.Given as goal

abbrev pub invariant-loop-k : goal.invariant-loop-k
invariant-loop-k l = Looped (spec.steps (length l.starts) l.words l.steps) l.starts l.none l.k l.fn.found l.found
