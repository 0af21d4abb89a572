-- `build_passes::judged` meets its contract, pass after pass. Assumes nothing.
use mathlib.Core.Path.{◌∙◌}
use Rattle.build_passes.specs.PassesLaws.{returned_of}
use Rattle.build_passes.proofs.judged.Statement.{statement}
use Rattle.table_access.specs.Tables.{first_of}
use Rattle.build_passes.proofs.judged.Tie as tie

verdicts-requires : tie.Need-verdicts-vs-requires
verdicts-requires c κs = let p = c.requires in (p.0.0, (p.0.1, (p.1.0, p.1.1.screened)))

states-requires : tie.Need-states-requires
states-requires c κs = let p = c.requires in (p.0.0, (c.verdicts-vs.ensures, p.1.1.cells))

returning-requires : tie.Need-returning-requires
returning-requires c κs =
    let p = c.requires in
    let v = c.verdicts-vs in
    (p.0.0.tabled, (c.states.ensures, (p.1.0, returned_of _ _ _ _ _ _ _ p.1.1.returned v.auto.bodies v.auto.steps)))

returns : tie.Need-returns
returns c = record { settled = c.states.ensures; first_of = c.returning.ensures }

pub judged_spec : {M : Type 1} → statement M
judged_spec =
    tie.close
    (tie.spec
    verdicts-requires
    states-requires
    returning-requires
    (λ c. c.states.auto.u)
    (λ c. c.returning.auto.rank)
    (λ c. c.verdicts-vs.auto.fields)
    (λ c. c.returning.auto.bodies ∙ c.verdicts-vs.auto.bodies)
    (λ c. c.returning.auto.steps ∙ c.verdicts-vs.auto.steps)
    (λ c. c.verdicts-vs.auto.marks)
    (λ c. c.verdicts-vs.auto.queue)
    (λ c. c.verdicts-vs.auto.found)
    returns)
