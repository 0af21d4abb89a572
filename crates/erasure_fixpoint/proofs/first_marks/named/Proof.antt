-- `first_marks::named` meets its contract, by the kind of the type. Assumes nothing.
use mathlib.Core.Path.{◌≡◌, sym, ◌∙◌}
use borrow.Author.Rules.{rules}
use borrow.Author.Tests.{ne_eqb}
use Rattle.erasure_marks.specs.Marks.{part}
use Rattle.erasure_laws.specs.FixpointLaws.{name_of_app}
use Rattle.erasure_fixpoint.proofs.first_marks.named.Statement.{statement}
use Rattle.table_access.specs.Tables.{lines_in}
use Rattle.erasure_fixpoint.proofs.first_marks.named.Tie as tie

decl-of-requires : tie.Need-decl_of-requires
decl-of-requires c κs =
    let a = c in
    (a.requires.0, rw c.type_number-then-type_number-eq8.ensures (name_of_app (lines_in a.args.t.now) a.requires.0.passed a.args.y a.requires.1 (sym c.type_number.ensures ∙ c.if-type_number-eq8.true)))

returns : tie.Need-returns-then-type_number-eq8
returns c =
    let a = c in
    let e : part (lines_in a.args.t.now) a.args.y 0 ≡ 8 = sym c.type_number.ensures ∙ c.if-type_number-eq8.true in
    c.decl_of.ensures ∙ rw (e, c.type_number-then-type_number-eq8.ensures)

returns-2 : tie.Need-returns
returns-2 c =
    let a = c in
    let n = c.if-type_number-eq8.false in
    c.decls.ensures ∙ rw (ne_eqb (part (lines_in a.args.t.now) a.args.y 0) 8 (λ q. n (c.type_number.ensures ∙ q)))

pub named_spec : {M : Type 1} → statement M
named_spec =
    tie.close
    (tie.spec
    (λ c κs. search rules)
    (λ c κs. search rules)
    (λ c. search rules)
    decl-of-requires
    returns
    (λ c κs. search rules)
    returns-2)
