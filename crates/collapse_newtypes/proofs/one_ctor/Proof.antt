-- `collapse_newtypes::one_ctor` meets its contract, by the body kind. Assumes nothing.
use borrow.Author.Rules.{rules}
use borrow.Author.Tests.{ne_eqb}
use Rattle.collapse_newtypes.specs.Newtypes.{one_ctor}
use Rattle.collapse_newtypes.proofs.one_ctor.Statement.{statement}
use Rattle.collapse_newtypes.proofs.one_ctor.Tie as tie

returns : tie.Need-returns-then-kind-eq2
unfolding one_ctor
returns c = let e = c.decl_number-kind.ensures in rw (← e, c.if-kind-eq2.true)

returns-2 : tie.Need-returns-then-kind-eq3
unfolding one_ctor
returns-2 c = let e = c.decl_number-kind.ensures in rw (← e, c.if-kind-eq3.true, ← c.decl_number.ensures)

returns-3 : tie.Need-returns
unfolding one_ctor
returns-3 c = let e = c.decl_number-kind.ensures in rw (← e, ne_eqb _ _ c.if-kind-eq2.false, ne_eqb _ _ c.if-kind-eq3.false)

pub one_ctor_spec : {M : Type 1} → statement M
one_ctor_spec =
    tie.close
    (tie.spec
    (λ c κs. search rules)
    returns
    (λ c κs. search rules)
    returns-2
    returns-3)
