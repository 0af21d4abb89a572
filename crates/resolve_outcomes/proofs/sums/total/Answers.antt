-- `resolve_outcomes::sums::total` meets its contract: the loop has the sum of the outcomes that it passed. Assumes nothing.
use mathlib.Core.Path.{◌≡◌, ◌∙◌, ap}
use Prim.Native.Nat.{◌+◌, ◌-◌, ◌≤◌}
use native.Mathlib.Omega.{arith}
use Rattle.resolve_outcomes.specs.Outcome as outcome
use Rattle.resolve_outcomes.specs.Scratch.{part, capped}
use Rattle.resolve_outcomes.proofs.Laws.Scratch.{sum_none, sum_more, capped_most}
use Rattle.resolve_outcomes.proofs.sums.total.Goals as goal

pub loop-i-init : goal.loop-i-init
loop-i-init c = (omega arith, sum_none 1024 _ _ _ c.requires.1)

pub more-n-requires : goal.more-n-requires
more-n-requires c =
    let b = c in
    (omega (arith, c.loop-i.invariant.1, capped_most 1024 (b.args.from + outcome.total (part b.args.at c.loop-i.i b.args.out.now))), omega (arith, c.shared_slice_known-in-loop-i-1.given (b.args.at + c.loop-i.i)))

pub loop-i-preserved : goal.loop-i-preserved
loop-i-preserved c =
    let b = c in
    let l = c.loop-i in
    (omega arith, c.more-n.ensures ∙ sum_more 1024 b.args.from b.args.out.now b.args.at l.n l.i l.invariant.1 (omega arith))
