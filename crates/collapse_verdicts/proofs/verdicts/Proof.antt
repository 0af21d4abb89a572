-- `collapse_verdicts::verdicts` meets its contract, from candidates to layouts. Assumes nothing.
use native.Mathlib.Omega.{arith}
use Rattle.collapse_verdicts.proofs.verdicts.Statement.{statement}
use Rattle.collapse_verdicts.proofs.verdicts.Tie as tie

candidates-requires : tie.Need-candidates-requires
candidates-requires c κs = let p = c.requires in (p.0.tabled, (p.1.0, p.1.1.1.fields_long))

passes-requires : tie.Need-passes-requires
passes-requires c κs = let p = c.requires in (p.0.tabled, (p.1.0.marked, (c.candidates.ensures, p.1.1.1.bodies_long)))

dropped-requires : tie.Need-dropped-requires
dropped-requires c κs = let p = c.requires in (p.0.tabled, (p.1.1.0, (c.candidates.ensures, (c.passes.ensures, p.1.1.1.lent))))

compute-layouts-requires : tie.Need-compute_layouts-requires
compute-layouts-requires c κs =
    let p = c.requires in
    let g = c.dropped in
    (p.0, (p.1.0, record { candidates = c.candidates.ensures; guarded = g.ensures; long = omega (arith, p.1.1.1.lent.found_long, g.auto.found) }))

returns : tie.Need-returns
returns c = c.compute_layouts.ensures

pub verdicts_spec : {M : Type 1} → statement M
verdicts_spec =
    tie.close
    (tie.spec
    candidates-requires
    passes-requires
    dropped-requires
    compute-layouts-requires
    (λ c. c.candidates.auto.fields)
    (λ c. c.passes.auto.bodies)
    (λ c. c.dropped.auto.steps)
    (λ c. c.dropped.auto.marks)
    (λ c. c.dropped.auto.queue)
    (λ c. c.dropped.auto.found)
    returns)
