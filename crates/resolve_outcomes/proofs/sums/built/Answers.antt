-- `resolve_outcomes::sums::built` meets its contract: the sum is the node's size where it is no greater than the limit. Assumes nothing.
use mathlib.Core.Path.{◌≡◌, ◌∙◌}
use Prim.Native.Nat.{◌+◌, suc}
use native.Mathlib.Omega.{arith}
use borrow.Author.Rules.{rules}
use Rattle.resolve_outcomes.specs.Outcome as outcome
use Rattle.resolve_outcomes.specs.Scratch.{part}
use Rattle.resolve_outcomes.proofs.Laws.Scratch.{built_small, built_large, capped_over, capped_under}
use Rattle.resolve_outcomes.proofs.sums.built.Goals as goal

pub returns-then-n-gt-LIMIT : goal.returns-then-n-gt-LIMIT
returns-then-n-gt-LIMIT c =
    let a = c.args in
    built_large 1024 (part a.at a.count a.out.now) a.head (omega (arith, capped_over 1024 (1 + outcome.total (part a.at a.count a.out.now)) (omega (arith, c.total-n.ensures))))

pub returns : goal.returns
returns c =
    let a = c.args in
    let os = part a.at a.count a.out.now in
    let q = capped_under 1024 (1 + outcome.total os) (omega (arith, c.total-n.ensures)) in
    let e : c.total-n.result ≡ suc (outcome.total os) = c.total-n.ensures ∙ (q.1 ∙ omega arith) in
    rw e (built_small 1024 os a.head (omega arith) c.requires.1 (omega (arith, q.0)))
