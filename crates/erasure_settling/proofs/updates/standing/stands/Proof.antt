-- `standing::stands` meets its contract, by what is known of the declaration. Assumes nothing.
use mathlib.Core.Logic.{inl, inr}
use native.Mathlib.Omega.{arith}
use borrow.Author.Rules.{rules}
use Rattle.erasure_laws.specs.RoundsLaws.{stands_still, stands_import}
use Rattle.erasure_settling.proofs.updates.standing.stands.Statement.{statement}
use Rattle.table_access.specs.Tables.{lines_in}
use Rattle.erasure_settling.proofs.updates.standing.stands.Tie as tie

returns : tie.Need-returns-then-decl-d-eq1
returns c = let a = c.args in stands_still (lines_in a.t.now) a.decl.now a.node.now a.wait.now a.d a.right (inl c.if-decl-d-eq1.true)

cast-y : tie.Need-overflow_cast-y
cast-y c = omega (arith, c.shared_slice_known-6-1.given c.args.d)

returns-2 : tie.Need-returns-then-node-y-eq0
returns-2 c = let a = c.args in stands_still (lines_in a.t.now) a.decl.now a.node.now a.wait.now a.d a.right (inr (inl (c.if-decl-d-eq1.false, c.if-y-right.true, c.if-node-y-eq0.true)))

returns-3 : tie.Need-returns
returns-3 c = let a = c.args in stands_import (lines_in a.t.now) a.decl.now a.node.now a.wait.now a.d a.right _ c.if-decl-d-eq1.false c.is_import.ensures

pub stands_spec : {M : Type 1} → statement M
stands_spec =
    tie.close
    (tie.spec
    (λ c. search rules)
    returns
    (λ c. search rules)
    (λ c. search rules)
    cast-y
    (λ c. search rules)
    returns-2
    (λ c κs. search rules)
    returns-3)
