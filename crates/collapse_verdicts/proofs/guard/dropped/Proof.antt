-- `collapse_verdicts::guard::dropped` meets its contract: the search goes by the names in what the guard goes on through. Assumes nothing.
use borrow.Author.Rules.{rules}
use Rattle.collapse_verdicts.proofs.GuardLaws.{guard_steps, guarded}
use Rattle.collapse_verdicts.proofs.guard.dropped.Statement.{statement}
use Rattle.table_access.specs.Tables.{lines_in}
use Rattle.collapse_verdicts.proofs.guard.dropped.Tie as tie

edges-requires : tie.Need-edges-requires
edges-requires c κs =
    let p = c.requires in
    (rw c.types.ensures p.1.0.long, rw p.1.1.1.0.long p.1.1.1.1.steps_long)

loops-requires : tie.Need-loops-requires
loops-requires c κs =
    let a = c.args in
    let p = c.requires in
    let f = p.1.1.0 in
    let l = p.1.1.1.1 in
    (guard_steps (lines_in a.t.now) a.words a.sets.now a.fields.now a.bodies.now a.steps.now _ _ l.few l.steps_long p.1.0 f p.1.1.1.0 c.types.ensures c.edges.ensures, (l.marks_long, (rw f.long l.queue_long, rw f.long l.found_long)))

returns : tie.Need-returns
returns c =
    let a = c.args in
    let p = c.requires in
    let l = p.1.1.1.1 in
    guarded (lines_in a.t.now) a.words a.sets.now a.fields.now a.bodies.now a.steps.now _ _ l.few l.steps_long p.1.0 p.1.1.0 p.1.1.1.0 c.types.ensures c.edges.ensures _ _ c.loops.ensures

pub dropped_spec : {M : Type 1} → statement M
dropped_spec =
    tie.close
    (tie.spec
    (λ c κs. search rules)
    edges-requires
    loops-requires
    (λ c. search rules)
    (λ c. search rules)
    (λ c. search rules)
    (λ c. search rules)
    returns)
