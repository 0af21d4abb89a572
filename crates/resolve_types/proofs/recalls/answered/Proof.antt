-- `resolve_types::recalls::answered` meets its contract, by the name's cells and what is remembered. Assumes nothing.
use native.Mathlib.Omega.{arith}
use borrow.Author.Rules.{rules}
use Rattle.table_declared.specs.PassedLaws.{names_few, position_few}
use Rattle.resolve_laws.specs.ResolverLaws.{answered_gone, answered_stays, answered_known}
use Rattle.resolve_types.proofs.recalls.answered.Statement.{statement}
use Rattle.table_access.specs.Tables.{lines_in}
use Rattle.resolve_types.proofs.recalls.answered.Tie as tie

state-requires : tie.Need-state-what-requires
state-requires c κs = let e = c in omega (arith, c.decl_of-d.ensures, position_few (lines_in e.args.t.now) e.requires.0.0.tabled.passed e.args.n)

returns : tie.Need-returns-then-what-eq-GONE
returns c =
    let a = c.args in
    let p = c.requires in
    answered_gone (lines_in a.t.now) a.t.now a.u.now p.0.0 a.n _ _ a.at a.count c.decl_of-d.ensures c.state-what.ensures a.out.now p.1.0 a.slots.now p.1.1 c.if-what-eq-GONE.true

returns-2 : tie.Need-returns-then-what-gt-ABBREVIATION
returns-2 c =
    let a = c.args in
    let p = c.requires in
    answered_stays (lines_in a.t.now) a.t.now a.u.now p.0.0 a.n _ _ a.at a.count c.decl_of-d.ensures c.state-what.ensures a.out.now p.1.0 a.slots.now p.1.1 _ c.if-what-gt-ABBREVIATION.true c.built.ensures

recall-requires : tie.Need-recall-requires
recall-requires c κs = let e = c in (omega (arith, e.requires.0.1, names_few (lines_in e.args.t.now) e.requires.0.0.tabled.passed), e.requires.1.0.room)

returns-3 : tie.Need-returns
returns-3 c =
    let a = c.args in
    let p = c.requires in
    answered_known (lines_in a.t.now) a.t.now a.u.now p.0.0 a.n _ _ a.at a.count c.decl_of-d.ensures c.state-what.ensures a.out.now p.1.0 a.slots.now p.1.1 _ c.if-what-eq-GONE.false c.if-what-gt-ABBREVIATION.false c.recall.ensures

pub answered_spec : {M : Type 1} → statement M
answered_spec =
    tie.close
    (tie.spec
    (λ c κs. search rules)
    state-requires
    returns
    (λ c κs. (c.requires.1.0.room, omega arith))
    returns-2
    recall-requires
    returns-3)
