-- `resolve_outcomes::sums::total` meets its contract: the loop has the sum of the outcomes that it passed. Assumes nothing.
use mathlib.Core.Path.{◌≡◌, ◌∙◌, ap}
use Prim.Native.Nat.{◌+◌, ◌-◌, ◌≤◌}
use native.Mathlib.Omega.{arith}
use Rattle.resolve_outcomes.specs.Outcome as outcome
use Rattle.resolve_outcomes.specs.Scratch.{part, capped}
use Rattle.resolve_outcomes.proofs.Laws.Scratch.{sum_none, sum_more, capped_most}
use Rattle.resolve_outcomes.proofs.sums.total.Given as goal

abbrev pub invariant-loop-i : goal.invariant-loop-i
invariant-loop-i l = (l.i ≤ l.count) × (l.n ≡ capped 1024 (l.from + outcome.total (part l.at l.i l.out)))
