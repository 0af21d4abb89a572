-- `pattern_owners::place_behind` meets its contract. Assumes nothing.
use native.Mathlib.Omega.{arith}
use borrow.Author.Rules.{rules}
use Rattle.pattern_owners.specs.PlacesLaws.{place_none, place_some}
use Rattle.pattern_owners.proofs.place_behind.Goals as goal

pub returns-then-link-eq0 : goal.returns-then-link-eq0
returns-then-link-eq0 c = let a = c.args in place_none a.place.now a.link c.if-link-eq0.true

pub overflow_add-result : goal.overflow_add-result
overflow_add-result c = let a = c in omega (arith, place_some a.args.place.now a.args.link c.if-link-eq0.false, a.requires.1)

pub returns : goal.returns
returns c = let a = c.args in place_some a.place.now a.link c.if-link-eq0.false
