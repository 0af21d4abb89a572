-- `row8_returning::returning` meets its contract: the table of steps holds the steps of unfolding. Assumes nothing.
use native.Mathlib.Omega.{arith}
use Rattle.row8_returning.specs.ReturningLaws.{searchable, found, rows_fit}
use borrow.Author.Rules.{rules}
use Rattle.row8_returning.proofs.returning.Statement.{statement}
use Rattle.table_access.specs.Tables.{lines_in}
use Rattle.row8_returning.proofs.returning.Tie as tie

edges-requires : tie.Need-edges-requires
edges-requires c κs =
    let a = c in
    (rows_fit _ _ _ _ c.types-types.ensures a.requires.1.1.0.long, rows_fit _ _ _ _ c.put_bodies.ensures.long a.requires.1.1.1.steps_long)

ranks-requires : tie.Need-ranks-requires
ranks-requires c κs =
    let a = c in
    let r = a.requires.1.1.1 in
    let n = c.decls-n.ensures in
    (searchable (lines_in a.args.t.now) a.requires.0.passed a.args.u.now a.requires.1.0 a.args.words _ _ a.args.sets.now _ a.args.steps.now _ (omega (arith, r.limit)) c.types-types.ensures n r.steps_long a.requires.1.1.0 c.put_bodies.ensures c.edges.ensures, (omega (arith, n, r.rank_long), r.limit))

returns : tie.Need-returns
returns c =
    let a = c in
    let r = a.requires.1.1.1 in
    found (lines_in a.args.t.now) a.requires.0.passed a.args.u.now a.requires.1.0 a.args.words _ _ a.args.sets.now _ a.args.steps.now _ (omega (arith, r.limit)) c.types-types.ensures c.decls-n.ensures r.steps_long a.requires.1.1.0 c.put_bodies.ensures c.edges.ensures _ _ _ c.ranks.ensures

pub returning_spec : {M : Type 1} → statement M
returning_spec =
    tie.close
    (tie.spec
    (λ c κs. search rules)
    (λ c κs. search rules)
    edges-requires
    (λ c κs. search rules)
    ranks-requires
    (λ c. search rules)
    (λ c. search rules)
    (λ c. search rules)
    returns)
