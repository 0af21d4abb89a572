-- What holds in the loops of the search: `TurnLaws` says what a turn of each makes of it.
use Rattle.std.proofs.Common.{◌-◌}
use Rattle.set_search.specs.TurnLaws.{Outer, Inner}
use Rattle.set_search.proofs.search.Given as goal

abbrev pub invariant-loop-name : goal.invariant-loop-name
invariant-loop-name l = Inner l.steps l.words l.n l.start l.marks l.queue l.head l.last l.node l.row l.name

abbrev pub decreases-loop-name : goal.decreases-loop-name
decreases-loop-name l = l.n - l.last

abbrev pub invariant-loop-head : goal.invariant-loop-head
invariant-loop-head l = Outer l.steps l.words l.n l.start l.marks l.queue l.head l.last

abbrev pub decreases-loop-head : goal.decreases-loop-head
decreases-loop-head l = l.n - l.head
