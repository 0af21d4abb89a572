-- `input_rows::miscounted` meets its contract: there are at most 256 names. Assumes nothing.
use borrow.Author.Rules.{rules}
use Rattle.input_rows.specs.JudgingLaws.{uncounted_long}
use Rattle.input_rows.proofs.miscounted.Statement.{statement}
use Rattle.input_rows.proofs.miscounted.Tie as tie

miscounted-by-requires : tie.Need-miscounted_by-requires
miscounted-by-requires c κs =
    let s = c in
    uncounted_long s.args.t.now s.args.q.now s.args.m.now s.args.names _ (search rules) s.requires

pub miscounted_spec : {M : Type 1} → statement M
miscounted_spec =
    tie.close
    (tie.spec
    (λ c. search rules)
    (λ c. search rules)
    (λ c. search rules)
    miscounted-by-requires
    (λ c. search rules))
