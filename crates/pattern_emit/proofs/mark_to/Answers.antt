-- `pattern_emit::mark_to` meets its contract. Assumes nothing.
use mathlib.Core.Path.{sym}
use native.Mathlib.Omega.{arith}
use borrow.Author.Rules.{rules}
use Rattle.pattern_emit.specs.Emit.{mark_to}
use Rattle.pattern_emit.specs.StepLaws.{mark_at}
use Rattle.pattern_emit.proofs.mark_to.Goals as goal

pub returns-then-k-eq0 : goal.returns-then-k-eq0
unfolding mark_to
returns-then-k-eq0 c = rw c.if-k-eq0.true

pub returns : goal.returns
returns c = sym (mark_at _ _ (omega arith))
