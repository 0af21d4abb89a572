-- `erasure_rulings::abbrev_erased` meets its contract, by the mark of the type. Assumes nothing.
use native.Mathlib.Omega.{arith}
use borrow.Author.Rules.{rules}
use Rattle.table_declared.specs.PassedLaws.{types_few}
use Rattle.erasure_laws.specs.BodiesLaws.{type_kept, type_gone}
use Rattle.erasure_rulings.proofs.abbrev_erased.Statement.{statement}
use Rattle.table_access.specs.Tables.{lines_in}
use Rattle.erasure_rulings.proofs.abbrev_erased.Tie as tie

mark-types-requires : tie.Need-mark_types-low-requires
mark-types-requires c κs =
    let a = c in
    (a.requires.0, ((omega (arith, c.decl_number-y.ensures, a.requires.1.0.2), a.requires.1.1.decl_size), a.requires.1.1.marks))

cast-wait : tie.Need-overflow_cast-wait
cast-wait c =
    let a = c in
    omega (arith, c.decl_number-y.ensures, a.requires.1.0.2, types_few (lines_in a.args.t.now) a.requires.0.passed)

returns : tie.Need-returns-then-node-y-eq0
returns c =
    let a = c in
    let ls = lines_in a.args.t.now in
    let m = c.mark_types-low in
    let e = c.decl_number-y.ensures in
    rw e
    (type_kept ls a.args.decl.now a.args.node.now a.args.member.now a.args.field.now a.args.wait.now m.new.node m.new.member a.args.right a.args.d a.requires.1.1 a.requires.1.0.0 a.requires.1.0.1 m.result m.ensures.0 (omega (arith, e, m.ensures.1)) (rw e at c.if-node-y-eq0.true))

returns-2 : tie.Need-returns
returns-2 c =
    let a = c in
    let ls = lines_in a.args.t.now in
    let m = c.mark_types-low in
    let e = c.decl_number-y.ensures in
    type_gone ls a.args.decl.now a.args.node.now a.args.member.now a.args.field.now a.args.wait.now m.new.node m.new.member a.args.right a.args.d a.requires.1.1 a.requires.1.0.0 a.requires.1.0.1 m.result m.ensures.0 (omega (arith, e, m.ensures.1)) (rw e at c.if-node-y-eq0.false)

pub abbrev_erased_spec : {M : Type 1} → statement M
abbrev_erased_spec =
    tie.close
    (tie.spec
    (λ c κs. search rules)
    (λ c. search rules)
    (λ c. search rules)
    mark-types-requires
    (λ c. search rules)
    cast-wait
    (λ c. search rules)
    (λ c. search rules)
    (λ c. search rules)
    (λ c. search rules)
    (λ c. search rules)
    returns
    (λ c. search rules)
    (λ c. search rules)
    returns-2)
