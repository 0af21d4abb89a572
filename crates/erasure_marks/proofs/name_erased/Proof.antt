-- `erasure_marks::name_erased` meets its contract, by the name's declaration. Assumes nothing.
use mathlib.Core.Path.{sym}
use borrow.Author.Rules.{rules}
use Rattle.model.specs.Erasure.{marked}
use Rattle.erasure_marks.specs.MarksLaws.{marks_at, marks_past}
use Rattle.erasure_marks.proofs.name_erased.Statement.{statement}
use Rattle.erasure_marks.proofs.name_erased.Tie as tie

returns : tie.Need-returns-then-d-decl
unfolding marked
returns c =
    let a = c in
    let d = c.decl_of-d in
    rw (← d.ensures) (sym (marks_at a.args.decl.now d.result))

returns-2 : tie.Need-returns
unfolding marked
returns-2 c =
    let a = c in
    let d = c.decl_of-d in
    rw (← d.ensures) (sym (marks_past a.args.decl.now d.result c.if-d-decl.false))

pub name_erased_spec : {M : Type 1} → statement M
name_erased_spec = tie.close (tie.spec (λ c κs. search rules) (λ c. search rules) returns returns-2)
