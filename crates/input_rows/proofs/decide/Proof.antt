-- `input_rows::decide` meets its contract, by the refusal of rows 2 to 7. Assumes nothing.
use mathlib.Core.Path.{sym, ◌∙◌}
use borrow.Author.Rules.{rules}
use Rattle.input_rows.specs.JudgingLaws.{input_sheet, decides_refused}
use Rattle.input_rows.proofs.decide.Statement.{statement}
use Rattle.input_rows.proofs.decide.Tie as tie

parted-requires : tie.Need-parted-requires
parted-requires c κs = (c.tabled-f.ensures.accepts c.in-Accepted.is, c.requires.2)

returns-2 : tie.Need-returns-in-Refused
returns-2 c =
    let a = c.args in
    rw c.refuse.ensures (decides_refused a.s.now _ _ _ _ _ _ (input_sheet a.s.now _ _ (sym c.tabled-f.ensures.answer ∙ c.in-Refused.is)))

pub decide_spec : {M : Type 1} → statement M
decide_spec =
    tie.close
    (tie.spec
    (λ c κs. search rules)
    (λ c. search rules)
    parted-requires
    (λ c. search rules)
    (λ c κs. search rules)
    (λ c. search rules)
    (λ c. search rules)
    (λ c. search rules)
    (λ c. search rules)
    (λ c. search rules)
    (λ c. search rules)
    returns-2)
