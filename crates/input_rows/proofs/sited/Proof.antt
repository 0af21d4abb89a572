-- `input_rows::sited` meets its contract. Assumes nothing.
use borrow.Author.Rules.{rules}
use Rattle.input_rows.specs.JudgingLaws.{uncounted_of}
use Rattle.input_rows.proofs.sited.Statement.{statement}
use Rattle.input_rows.proofs.sited.Tie as tie

miscounted-requires : tie.Need-miscounted-requires
miscounted-requires c κs =
    let s = c in
    uncounted_of s.args.t.now s.args.q.now _ s.requires.0 s.requires.1 c.fill.ensures _ c.names.ensures

pub sited_spec : {M : Type 1} → statement M
sited_spec =
    tie.close
    (tie.spec
    (λ c κs. search rules)
    (λ c κs. search rules)
    miscounted-requires
    (λ c. search rules)
    (λ c. search rules))
