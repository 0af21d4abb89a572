-- `row8_returning::ranks::ranks` meets its contract: the ones of a row of what is reached are the nodes that are reached. Assumes nothing.
use borrow.Author.Rules.{rules}
use Rattle.row8_returning.specs.RanksLaws.{ranks_first}
use Rattle.row8_returning.proofs.ranks.ranks.Statement.{statement}
use Rattle.row8_returning.proofs.ranks.ranks.Tie as tie

returns : tie.Need-returns
returns c =
    let s = c in
    let d = c.close in
    ranks_first s.args.n s.args.words s.args.steps.now _ s.requires.0 d.ensures (λ i. (c.slice_known-3-1.given i).fits) c.count.result _ _ c.count.ensures

pub ranks_spec : {M : Type 1} → statement M
ranks_spec = tie.close (tie.spec (λ c κs. search rules) (λ c κs. search rules) (λ c. search rules) (λ c. search rules) returns)
