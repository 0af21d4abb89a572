-- `erasure_marks::cty_erased` meets its contract, by the kind of the type. Assumes nothing.
use mathlib.Core.Path.{sym, ◌∙◌}
use borrow.Author.Rules.{rules}
use Rattle.erasure_marks.specs.Marks.{marks_of}
use Rattle.erasure_marks.specs.MarksLaws.{erased_unit, erased_app, erased_other, arrow_low, inline_low, app_name, arrow_marked, inline_marked, tuple_of, tuple_marked}
use Rattle.erasure_marks.proofs.cty_erased.Statement.{statement}
use Rattle.table_access.specs.Tables.{lines_in}
use Rattle.erasure_marks.proofs.cty_erased.Tie as tie

arrow-erased-requires : tie.Need-arrow_erased-requires
arrow-erased-requires c κs =
    let a = c in
    (a.requires.0, (a.requires.1.0.0, arrow_low (lines_in a.args.t.now) a.requires.0.passed (marks_of a.args.decl.now) a.args.y a.requires.1.0.0 a.args.node.now a.args.member.now a.requires.1.1 (sym c.type_number-kind.ensures ∙ c.in-7.is)))

name-erased-requires : tie.Need-name_erased-requires
name-erased-requires c κs =
    let a = c in
    (a.requires.0, (rw c.type_number.ensures (app_name (lines_in a.args.t.now) a.requires.0.passed (marks_of a.args.decl.now) a.args.y a.requires.1.0.0 a.args.node.now a.args.member.now a.requires.1.1 (sym c.type_number-kind.ensures ∙ c.in-8.is)), a.requires.1.0.1))

tuple-erased-requires : tie.Need-tuple_erased-requires
tuple-erased-requires c κs =
    let a = c in
    (a.requires.0, tuple_of (lines_in a.args.t.now) a.requires.0.passed (marks_of a.args.decl.now) a.args.y a.requires.1.0.0 a.args.node.now a.args.member.now a.requires.1.1 (sym c.type_number-kind.ensures ∙ c.in-9.is))

shared-slice-read-result : tie.Need-bounds-node-type_number
shared-slice-read-result c =
    let a = c in
    rw c.type_number-in-12.ensures (inline_low (lines_in a.args.t.now) a.requires.0.passed (marks_of a.args.decl.now) a.args.y a.requires.1.0.0 a.args.node.now a.args.member.now a.requires.1.1 (sym c.type_number-kind.ensures ∙ c.in-12.is))

returns : tie.Need-returns-in-0
returns c =
    let a = c in
    record { marks = a.requires.1.1; answer = sym (erased_unit (lines_in a.args.t.now) a.requires.0.passed (marks_of a.args.decl.now) a.args.y a.requires.1.0.0 (sym c.type_number-kind.ensures ∙ c.in-0.is)) }

returns-2 : tie.Need-returns-in-7
returns-2 c =
    let a = c in
    record { marks = a.requires.1.1; answer = c.arrow_erased.ensures ∙ arrow_marked (lines_in a.args.t.now) a.requires.0.passed (marks_of a.args.decl.now) a.args.y a.requires.1.0.0 a.args.node.now a.args.member.now a.requires.1.1 (sym c.type_number-kind.ensures ∙ c.in-7.is) }

returns-3 : tie.Need-returns-in-8
returns-3 c =
    let a = c in
    record { marks = a.requires.1.1; answer = c.name_erased.ensures ∙ rw c.type_number.ensures (sym (erased_app (lines_in a.args.t.now) a.requires.0.passed (marks_of a.args.decl.now) a.args.y a.requires.1.0.0 (sym c.type_number-kind.ensures ∙ c.in-8.is))) }

returns-4 : tie.Need-returns-in-9
returns-4 c =
    let a = c in
    tuple_marked (lines_in a.args.t.now) a.requires.0.passed (marks_of a.args.decl.now) a.args.y a.requires.1.0.0 a.args.node.now a.args.member.now a.requires.1.1 (sym c.type_number-kind.ensures ∙ c.in-9.is) c.tuple_erased.new.member c.tuple_erased.result c.tuple_erased.ensures

returns-5 : tie.Need-returns-in-12
returns-5 c =
    let a = c in
    record { marks = a.requires.1.1; answer = rw c.type_number-in-12.ensures (inline_marked (lines_in a.args.t.now) a.requires.0.passed (marks_of a.args.decl.now) a.args.y a.requires.1.0.0 a.args.node.now a.args.member.now a.requires.1.1 (sym c.type_number-kind.ensures ∙ c.in-12.is)) }

returns-6 : tie.Need-returns-in-1-to-11
returns-6 c =
    let a = c in
    let r = c.in-1-to-11.in_default-own.rest in
    let e = c.type_number-kind.ensures in
    record { marks = a.requires.1.1; answer = sym (erased_other (lines_in a.args.t.now) a.requires.0.passed (marks_of a.args.decl.now) a.args.y a.requires.1.0.0 (λ q. c.in-1-to-11.in_default-own.rest.0.0.0.0.1 (e ∙ q)) (λ q. c.in-1-to-11.in_default-own.rest.0.0.0.1 (e ∙ q)) (λ q. c.in-1-to-11.in_default-own.rest.0.0.1 (e ∙ q)) (λ q. c.in-1-to-11.in_default-own.rest.0.1 (e ∙ q)) (λ q. c.in-1-to-11.in_default-own.rest.1 (e ∙ q))) }

returns-7 : tie.Need-returns-in_default
returns-7 c =
    let a = c in
    let r = c.in_default.in_default-own.rest in
    let e = c.type_number-kind.ensures in
    record { marks = a.requires.1.1; answer = sym (erased_other (lines_in a.args.t.now) a.requires.0.passed (marks_of a.args.decl.now) a.args.y a.requires.1.0.0 (λ q. c.in_default.in_default-own.rest.0.0.0.0.1 (e ∙ q)) (λ q. c.in_default.in_default-own.rest.0.0.0.1 (e ∙ q)) (λ q. c.in_default.in_default-own.rest.0.0.1 (e ∙ q)) (λ q. c.in_default.in_default-own.rest.0.1 (e ∙ q)) (λ q. c.in_default.in_default-own.rest.1 (e ∙ q))) }

pub cty_erased_spec : {M : Type 1} → statement M
cty_erased_spec =
    tie.close
    (tie.spec
    (λ c κs. search rules)
    arrow-erased-requires
    (λ c κs. search rules)
    (λ c. search rules)
    name-erased-requires
    tuple-erased-requires
    (λ c κs. search rules)
    (λ c. search rules)
    shared-slice-read-result
    returns
    returns-2
    returns-3
    (λ c. search rules)
    returns-4
    returns-5
    returns-6
    returns-7)
