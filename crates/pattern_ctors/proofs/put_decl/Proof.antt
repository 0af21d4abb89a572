-- `pattern_ctors::put_decl` meets its contract, by the body kind. Assumes nothing.
use mathlib.Core.Path.{◌≡◌, sym, ◌∙◌}
use native.Mathlib.Omega.{arith}
use borrow.Author.Rules.{rules}
use Rattle.table_declared.specs.PassedLaws.{decls_few}
use Rattle.table_access.specs.Tables.{lines_in}
use Rattle.keep_layouts.specs.Kept.{body_kind}
use Rattle.pattern_ctors.specs.SitesLaws.{head_named, record_few, sited_bare, sited_record}
use Rattle.pattern_ctors.proofs.put_decl.Statement.{statement}
use Rattle.pattern_ctors.proofs.put_decl.Tie as tie

put-requires : tie.Need-put-requires
put-requires c κs =
    let a = c in
    let ls = lines_in a.args.t.now in
    let p = a.requires.0.0.passed in
    let e : body_kind ls a.args.d ≡ 2 = sym c.decl_number-kind.ensures ∙ c.if-kind-eq2.true in
    let f = record_few ls p a.args.d a.requires.0.1 e in
    (omega (arith, c.decl_number-n.ensures, head_named ls p a.args.d a.requires.0.1, a.requires.1.long), omega (arith, a.requires.0.1, decls_few ls p), omega (arith, c.first_field-f.ensures, f.0), omega (arith, c.decl_number.ensures, f.1))

returns-2 : tie.Need-returns-then-kind-eq2
returns-2 c =
    let a = c in
    let ls = lines_in a.args.t.now in
    let b = c in
    let e : body_kind ls a.args.d ≡ 2 = sym b.decl_number-kind.ensures ∙ b.if-kind-eq2.true in
    rw (c.put.ensures, b.decl_number.ensures, b.first_field-f.ensures, b.decl_number-n.ensures)
    (sited_record ls a.requires.0.0.passed a.args.d a.requires.0.1 e a.args.m.now a.requires.1)

returns-3 : tie.Need-returns-else-kind-eq2
returns-3 c =
    let a = c in
    let k = c.decl_number-kind.ensures in
    sited_bare (lines_in a.args.t.now) a.requires.0.0.passed a.args.d a.requires.0.1 a.args.m.now (λ z. c.if-kind-eq3.false (k ∙ z)) (λ z. c.if-kind-eq2.false (k ∙ z)) a.requires.1

pub put_decl_spec : {M : Type 1} → statement M
put_decl_spec =
    tie.close
    (tie.spec
    (λ c κs. search rules)
    (λ c κs. search rules)
    (λ c κs. search rules)
    (λ c. search rules)
    (λ c κs. search rules)
    (λ c κs. search rules)
    (λ c. search rules)
    put-requires
    (λ c. search rules)
    (λ c. search rules)
    (λ c. search rules)
    returns-2
    returns-3)
