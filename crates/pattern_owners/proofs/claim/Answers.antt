-- `pattern_owners::claim` meets its contract. Assumes nothing.
use borrow.Author.Rules.{rules}
use Rattle.pattern_owners.specs.PlacesLaws.{claim_none, claim_some}
use Rattle.pattern_owners.proofs.claim.Goals as goal

pub returns-then-link-ne0 : goal.returns-then-link-ne0
returns-then-link-ne0 c = let a = c.args in claim_some a.own.now a.link a.v c.if-link-ne0.true

pub returns-else-link-ne0 : goal.returns-else-link-ne0
returns-else-link-ne0 c = let a = c.args in claim_none a.own.now a.link a.v c.if-link-ne0.false
