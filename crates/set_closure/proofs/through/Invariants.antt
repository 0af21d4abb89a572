-- `set_closure::through` meets its contract: after i turns the first i rows are done. Assumes nothing.
use Prim.Native.Nat.{◌≤◌}
use Rattle.set_closure.specs.Closure.{Through}
use Rattle.set_closure.proofs.through.Given as goal

abbrev pub invariant-loop-i : goal.invariant-loop-i
invariant-loop-i l = (l.i ≤ l.n) × Through l.n l.words l.k l.i l.initial.rows l.rows
