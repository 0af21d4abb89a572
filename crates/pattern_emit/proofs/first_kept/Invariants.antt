-- `pattern_emit::first_kept` meets its contract: the link falls, and of the parts passed the first that is kept is known. Assumes nothing.
use native.Mathlib.Omega.{arith}
use borrow.Author.Rules.{rules}
use Rattle.pattern_emit.specs.StepLaws.{Searched, searched_none, searched_more, searched_all, lower_link}
use Rattle.pattern_emit.proofs.first_kept.Given as goal

abbrev pub invariant-loop-l : goal.invariant-loop-l
invariant-loop-l l = Searched l.q l.flags l.k l.l l.r

abbrev pub decreases-loop-l : goal.decreases-loop-l
decreases-loop-l l = l.l
