-- `erasure_marks::tuple_erased` meets its contract, by its walk over the list. Assumes nothing.
use borrow.Author.Rules.{rules}
use Rattle.erasure_marks.specs.MarksLaws.{tupled}
use Rattle.erasure_marks.proofs.tuple_erased.Statement.{statement}
use Rattle.table_access.specs.Tables.{lines_in}
use Rattle.erasure_marks.proofs.tuple_erased.Tie as tie

first-kept-requires : tie.Need-first_kept-j-requires
first-kept-requires c κs =
    let a = c in
    (a.requires.0, rw (c.type_number-first.ensures, c.type_number-count.ensures) (a.requires.1.listed, a.requires.1.within))

returns : tie.Need-returns
returns c =
    let a = c in
    tupled (lines_in a.args.t.now) a.args.node.now a.args.member.now a.args.y c.type_number-first.result c.type_number-count.result c.first_kept-j.result a.requires.1.sized c.type_number-first.ensures c.type_number-count.ensures c.first_kept-j.ensures

pub tuple_erased_spec : {M : Type 1} → statement M
tuple_erased_spec =
    tie.close
    (tie.spec
    (λ c κs. search rules)
    (λ c. search rules)
    (λ c κs. search rules)
    (λ c. search rules)
    (λ c. search rules)
    (λ c. search rules)
    (λ c. search rules)
    first-kept-requires
    (λ c. search rules)
    (λ c. search rules)
    (λ c. search rules)
    (λ c. search rules)
    returns)
