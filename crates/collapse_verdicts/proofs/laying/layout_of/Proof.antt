-- `collapse_verdicts::laying::layout_of` meets its contract, by the declaration's letter and mark. Assumes nothing.
use mathlib.Core.Path.{sym, ◌∙◌}
use borrow.Author.Rules.{rules}
use Rattle.collapse_verdicts.proofs.LayingLaws.{local_erased, local_kept}
use Rattle.collapse_verdicts.proofs.laying.layout_of.Statement.{statement}
use Rattle.table_access.specs.Tables.{lines_in}
use Rattle.collapse_verdicts.proofs.laying.layout_of.Tie as tie

by-verdict-requires : tie.Need-by_verdict-requires
by-verdict-requires c κs =
    let p = c.requires in
    (p.0, ((p.1.0, sym c.is_import.ensures ∙ c.if-is_import.true), (p.1.1.0.slotted, p.1.1.0.long)))

returns-2 : tie.Need-returns-then-decl-d-eq1
returns-2 c =
    let a = c in
    local_erased (lines_in a.args.t.now) a.args.d a.requires.1.0 a.args.decl.now a.requires.1.1.0.marked.marks (sym c.is_import.ensures ∙ c.if-is_import.false) c.if-decl-d-eq1.true

returns-3 : tie.Need-returns
returns-3 c =
    let a = c in
    local_kept (lines_in a.args.t.now) a.args.d a.requires.1.0 a.args.decl.now a.requires.1.1.0.marked.marks (sym c.is_import.ensures ∙ c.if-is_import.false) c.by_body.result c.if-decl-d-eq1.false c.by_body.ensures

pub layout_of_spec : {M : Type 1} → statement M
layout_of_spec =
    tie.close
    (tie.spec
    (λ c κs. search rules)
    by-verdict-requires
    (λ c. search rules)
    (λ c. search rules)
    returns-2
    (λ c κs. search rules)
    returns-3)
