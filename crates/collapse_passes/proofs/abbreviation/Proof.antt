-- `collapse_passes::abbreviation` meets its contract, one condition after the other. Assumes nothing.
use mathlib.Core.Path.{sym, ◌∙◌}
use native.Mathlib.Omega.{arith}
use borrow.Author.Rules.{rules}
use Rattle.table_declared.specs.PassedLaws.{types_few}
use Rattle.erasure_laws.specs.BodiesLaws.{last_types}
use Rattle.collapse_passes.specs.PassesLaws.{stops_bare, stops_erased, stops_named, goes_on}
use Rattle.collapse_passes.proofs.abbreviation.Statement.{statement}
use Rattle.table_access.specs.Tables.{lines_in}
use Rattle.collapse_passes.proofs.abbreviation.Tie as tie

cast-none : tie.Need-overflow_cast-none
cast-none c = let a = c in omega (arith, c.types-none.ensures, types_few (lines_in a.args.t.now) a.requires.0.passed)

returns : tie.Need-returns-then-decl_number-ne1
returns c =
    let a = c in
    let k = c.decl_number in
    stops_bare (lines_in a.args.t.now) a.requires.0.passed a.args.d a.requires.1.0 _ c.types-none.ensures k.result k.ensures c.if-decl_number-ne1.true

returns-2 : tie.Need-returns-then-erased
returns-2 c =
    let a = c in
    let e = c.erased in
    stops_erased (lines_in a.args.t.now) a.requires.0.passed a.args.d a.requires.1.0 _ c.types-none.ensures e.result e.ensures c.if-erased.true

returns-3 : tie.Need-returns-then-stays
returns-3 c =
    let a = c in
    let k = c.decl_number in
    let n = c.stays in
    stops_named (lines_in a.args.t.now) a.requires.0.passed a.args.d a.requires.1.0 _ c.types-none.ensures k.result k.ensures c.if-decl_number-ne1.false n.result n.ensures c.if-stays.true

cast-result : tie.Need-overflow_cast-result
cast-result c =
    let a = c in
    let k = c.decl_number in
    let l = last_types (lines_in a.args.t.now) a.requires.0.passed a.args.d a.requires.1.0 (sym k.ensures ∙ c.if-decl_number-ne1.false) in
    omega (arith, c.decl_number-2.ensures, l, types_few (lines_in a.args.t.now) a.requires.0.passed)

returns-4 : tie.Need-returns
returns-4 c =
    let a = c in
    let k = c.decl_number in
    let e = c.erased in
    let n = c.stays in
    goes_on (lines_in a.args.t.now) a.requires.0.passed a.args.d a.requires.1.0 k.result k.ensures c.if-decl_number-ne1.false e.result e.ensures c.if-erased.false n.result n.ensures c.if-stays.false _ c.decl_number-2.ensures

pub abbreviation_spec : {M : Type 1} → statement M
abbreviation_spec =
    tie.close
    (tie.spec
    (λ c κs. search rules)
    cast-none
    (λ c κs. search rules)
    returns
    (λ c κs. search rules)
    returns-2
    (λ c κs. search rules)
    returns-3
    (λ c κs. search rules)
    cast-result
    returns-4)
