-- `collapse_passes::stays` meets its contract: the two flags one after the other. Assumes nothing.
use borrow.Author.Rules.{rules}
use Rattle.collapse_passes.specs.PassesLaws.{named_realized, named_kept}
use Rattle.collapse_passes.proofs.stays.Statement.{statement}
use Rattle.table_access.specs.Tables.{lines_in}
use Rattle.collapse_passes.proofs.stays.Tie as tie

returns : tie.Need-returns-then-flags-eq1
returns c =
    let a = c.args in
    named_realized (lines_in a.t.now) a.d _ c.decl_number-flags.ensures c.if-flags-eq1.true

returns-2 : tie.Need-returns
returns-2 c =
    let a = c.args in
    named_kept (lines_in a.t.now) a.d _ c.decl_number-flags.ensures c.if-flags-eq1.false

pub stays_spec : {M : Type 1} → statement M
stays_spec = tie.close (tie.spec (λ c κs. search rules) returns returns-2)
