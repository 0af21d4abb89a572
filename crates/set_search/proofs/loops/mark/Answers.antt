-- `set_search::loops::mark` meets its contract, by the entry of the node and the search from it.
use Rattle.std.proofs.Common.{◌≡◌, ◌∙◌, ℕ, Bool, true, false, not, Option, None, Some, is_some, refl}
use mir.Val.{bool_byte}
use Rattle.set_search.specs.Loops.{start}
use Rattle.set_search.specs.LoopsLaws.{mark_none, mark_start}
use Rattle.set_search.proofs.loops.mark.Goals as goal

pub returns-then-starts-k : goal.returns-then-starts-k
returns-then-starts-k c = mark_none _ _ _ _ c.if-starts-k.true

by_case : (r : Option ℕ) (b : Bool) → is_some r ≡ not b → bool_byte b ≡ start r
by_case None true e = refl
by_case None false e = cc
by_case (Some n) true e = cc
by_case (Some n) false e = refl

pub returns : goal.returns
returns c = c.from.ensures ∙ by_case _ _ c.is_none.ensures ∙ mark_start _ _ _ _ c.if-starts-k.false _ _ c.search-r.ensures
