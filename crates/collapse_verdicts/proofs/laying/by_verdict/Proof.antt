-- `collapse_verdicts::laying::by_verdict` meets its contract, by the V line's second number. Assumes nothing.
use mathlib.Core.Path.{sym, ◌∙◌}
use borrow.Author.Rules.{rules}
use Rattle.collapse_verdicts.proofs.LayingLaws.{import_erased, import_newtype, import_struct, import_abbrev, import_plain, import_opaque}
use Rattle.collapse_verdicts.proofs.laying.by_verdict.Statement.{statement}
use Rattle.table_access.specs.Tables.{lines_in}
use Rattle.collapse_verdicts.proofs.laying.by_verdict.Tie as tie

returns : tie.Need-returns-then-n-eq0
returns c =
    let a = c in
    let v = c.verdict_number-n in
    import_erased (lines_in a.args.t.now) a.requires.0.passed a.args.d a.requires.1.0.0 a.requires.1.0.1 v.result v.ensures c.if-n-eq0.true

returns-2 : tie.Need-returns-then-n-eq1
returns-2 c =
    let a = c in
    let v = c.verdict_number-n in
    import_newtype (lines_in a.args.t.now) a.requires.0.passed a.args.d a.requires.1.0.0 a.requires.1.0.1 v.result v.ensures c.by_kept.result c.if-n-eq1.true c.by_kept.ensures

returns-3 : tie.Need-returns-then-n-eq2
returns-3 c =
    let a = c in
    let v = c.verdict_number-n in
    import_struct (lines_in a.args.t.now) a.requires.0.passed a.args.d a.requires.1.0.0 a.requires.1.0.1 v.result v.ensures c.if-n-eq2.true

returns-4 : tie.Need-returns-then-decl_number-eq1
returns-4 c =
    let a = c in
    let v = c.verdict_number-n in
    import_abbrev (lines_in a.args.t.now) a.requires.0.passed a.args.d a.requires.1.0.0 a.requires.1.0.1 v.result v.ensures c.if-n-eq3.true (sym c.decl_number.ensures ∙ c.if-decl_number-eq1.true)

returns-5 : tie.Need-returns-else-decl_number-eq1
returns-5 c =
    let a = c in
    let v = c.verdict_number-n in
    import_plain (lines_in a.args.t.now) a.requires.0.passed a.args.d a.requires.1.0.0 a.requires.1.0.1 v.result v.ensures c.if-n-eq3.true (λ e. c.if-decl_number-eq1.false (c.decl_number.ensures ∙ e))

returns-6 : tie.Need-returns-else-n-eq3
returns-6 c =
    let a = c in
    let v = c.verdict_number-n in
    import_opaque (lines_in a.args.t.now) a.requires.0.passed a.args.d a.requires.1.0.0 a.requires.1.0.1 v.result v.ensures c.if-n-eq0.false c.if-n-eq1.false c.if-n-eq2.false c.if-n-eq3.false

pub by_verdict_spec : {M : Type 1} → statement M
by_verdict_spec =
    tie.close
    (tie.spec
    (λ c κs. search rules)
    returns
    (λ c κs. search rules)
    returns-2
    returns-3
    (λ c κs. search rules)
    returns-4
    returns-5
    returns-6)
