-- `build::checked` meets its contract, by the refusal of the input's rows. Assumes nothing.
use mathlib.Core.Path.{sym, ◌∙◌}
use borrow.Author.Rules.{rules}
use Rattle.build.specs.BuildLaws.{gives_input}
use Rattle.build.proofs.checked.Statement.{statement}
use Rattle.build.proofs.checked.Tie as tie

accepted-requires : tie.Need-accepted-requires
accepted-requires c κs =
    let d = c.decide-d in
    (c.decide-d.ensures.accepts c.in-Accepted.is, record { keeps = search rules; names = search rules; ranks = search rules })

returns-2 : tie.Need-returns-in-Refused
returns-2 c =
    let a = c.args in
    rw c.refused.ensures (gives_input a.s.now a.v.now a.l.now _ _ (sym c.decide-d.ensures.answer ∙ c.in-Refused.is))

pub checked_spec : {M : Type 1} → statement M
checked_spec =
    tie.close
    (tie.spec
    (λ c. search rules)
    (λ c. search rules)
    (λ c. search rules)
    (λ c κs. search rules)
    (λ c. search rules)
    (λ c. search rules)
    (λ c. search rules)
    (λ c. search rules)
    accepted-requires
    (λ c. search rules)
    (λ c κs. search rules)
    (λ c. search rules)
    (λ c. search rules)
    (λ c. search rules)
    (λ c. search rules)
    (λ c. search rules)
    returns-2)
