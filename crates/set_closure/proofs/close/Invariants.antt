-- `set_closure::close` meets its contract: after k turns the rows have what is reached by way of nodes below k. Assumes nothing.
use Prim.Native.Nat.{◌≤◌}
use Rattle.set_closure.specs.Closure.{ClosedTo}
use Rattle.set_closure.proofs.close.Given as goal

abbrev pub invariant-loop-k : goal.invariant-loop-k
invariant-loop-k l = (l.k ≤ l.n) × ClosedTo l.k l.n l.words l.initial.rows l.rows
