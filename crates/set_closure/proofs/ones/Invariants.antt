-- `set_closure::ones` meets its contract: after w turns the ones of the first w words are counted. Assumes nothing.
use mathlib.Core.Path.{◌≡◌}
use Prim.Native.Nat.{◌*◌, ◌≤◌}
use Rattle.set_closure.specs.Ones.{ones_of}
use Rattle.set_closure.proofs.ones.Given as goal

abbrev pub invariant-loop-w : goal.invariant-loop-w
invariant-loop-w l = (l.w ≤ l.words) × (l.sum ≡ ones_of l.rows l.at l.w) × (l.sum ≤ 64 * l.w)
