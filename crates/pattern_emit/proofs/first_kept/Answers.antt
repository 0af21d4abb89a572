-- `pattern_emit::first_kept` meets its contract: the link falls, and of the parts passed the first that is kept is known. Assumes nothing.
use native.Mathlib.Omega.{arith}
use borrow.Author.Rules.{rules}
use Rattle.pattern_emit.specs.StepLaws.{Searched, searched_none, searched_more, searched_all, lower_link}
use Rattle.pattern_emit.proofs.first_kept.Goals as goal

pub loop-l-init : goal.loop-l-init
loop-l-init c = searched_none _ _ _

pub loop-l-preserved : goal.loop-l-preserved
loop-l-preserved c =
    let p = c.requires in
    let l = c.loop-l in
    searched_more _ _ _ l.l l.r _ _ p.0 (omega (arith, c.loop-l-test.true)) (omega (arith, p.2, l.invariant.lower)) c.kept_or-r.ensures c.number-l.ensures l.invariant

pub returns : goal.returns
returns c = searched_all _ _ _ c.loop-l.l _ (omega (arith, c.loop-l-test.false)) c.loop-l.invariant
