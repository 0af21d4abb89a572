-- `overlay::layout_number` meets its contract, by the cell and the body kind. Assumes nothing.
use borrow.Author.Rules.{rules}
use borrow.Author.Tests.{ne_eqb}
use Rattle.verdict_sheet.specs.StepLaws.{cell_inside, number_gone, number_newtype, number_kept}
use Rattle.verdict_sheet.proofs.overlay.layout_number.Statement.{statement}
use Rattle.table_access.specs.Tables.{lines_in}
use Rattle.verdict_sheet.proofs.overlay.layout_number.Tie as tie

shared-slice-read-state : tie.Need-bounds-u-d
shared-slice-read-state c = let a = c in cell_inside (lines_in a.args.t.now) a.args.u.now a.args.d a.requires.0.1 a.requires.1

returns : tie.Need-returns-then-state-eq0
returns c = let a = c in number_gone (lines_in a.args.t.now) a.args.u.now a.args.d a.requires.0.1 a.requires.1 c.if-state-eq0.true

returns-2 : tie.Need-returns-then-state-eq1
returns-2 c = let a = c in number_newtype (lines_in a.args.t.now) a.args.u.now a.args.d a.requires.0.1 a.requires.1 c.if-state-eq1.true

returns-3 : tie.Need-returns-then-kind-eq0
returns-3 c =
    let a = c in
    let k = c.decl_number-kind in
    rw c.if-kind-eq0.true at (number_kept (lines_in a.args.t.now) a.args.u.now a.args.d a.requires.0.1 a.requires.1 c.if-state-eq0.false c.if-state-eq1.false k.result k.ensures)

returns-4 : tie.Need-returns-then-kind-eq1
returns-4 c =
    let a = c in
    let k = c.decl_number-kind in
    rw c.if-kind-eq1.true at (number_kept (lines_in a.args.t.now) a.args.u.now a.args.d a.requires.0.1 a.requires.1 c.if-state-eq0.false c.if-state-eq1.false k.result k.ensures)

returns-5 : tie.Need-returns
returns-5 c =
    let a = c in
    let k = c.decl_number-kind in
    rw (ne_eqb k.result 0 c.if-kind-eq0.false, ne_eqb k.result 1 c.if-kind-eq1.false) at
    (number_kept (lines_in a.args.t.now) a.args.u.now a.args.d a.requires.0.1 a.requires.1 c.if-state-eq0.false c.if-state-eq1.false k.result k.ensures)

pub layout_number_spec : {M : Type 1} → statement M
layout_number_spec =
    tie.close
    (tie.spec
    (λ c. search rules)
    (λ c. search rules)
    shared-slice-read-state
    returns
    returns-2
    (λ c κs. search rules)
    returns-3
    returns-4
    returns-5)
