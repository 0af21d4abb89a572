-- `collapse_verdicts::laying::by_body` meets its contract, by the body kind. Assumes nothing.
use borrow.Author.Rules.{rules}
use Rattle.table_declared.specs.DeclLaws.{whole_at}
use Rattle.collapse_verdicts.proofs.LayingLaws.{body_opaque, body_abbrev, body_ctors}
use Rattle.collapse_verdicts.proofs.laying.by_body.Statement.{statement}
use Rattle.table_access.specs.Tables.{lines_in}
use Rattle.collapse_verdicts.proofs.laying.by_body.Tie as tie

returns : tie.Need-returns-then-kind-eq0
returns c = let a = c in body_opaque (lines_in a.args.t.now) a.args.d a.requires.1.0 c.decl_number-kind.result c.decl_number-kind.ensures c.if-kind-eq0.true

returns-2 : tie.Need-returns-then-kind-eq1
returns-2 c = let a = c in body_abbrev (lines_in a.args.t.now) a.args.d a.requires.1.0 c.decl_number-kind.result c.decl_number-kind.ensures c.if-kind-eq1.true

returns-3 : tie.Need-returns
returns-3 c =
    let a = c in
    body_ctors (lines_in a.args.t.now) a.args.d a.requires.1.0 c.collapse.result c.decl_number-kind.result c.decl_number-kind.ensures c.if-kind-eq0.false c.if-kind-eq1.false (whole_at (lines_in a.args.t.now) a.requires.0.passed a.args.d a.requires.1.0).kinds c.collapse.ensures

pub by_body_spec : {M : Type 1} → statement M
by_body_spec = tie.close (tie.spec (λ c κs. search rules) returns returns-2 (λ c κs. search rules) returns-3)
