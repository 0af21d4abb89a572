-- `collapse_passes::erased` meets its contract, by the declaration's letter. Assumes nothing.
use mathlib.Core.Path.{sym, ◌∙◌}
use borrow.Author.Rules.{rules}
use Rattle.collapse_passes.specs.PassesLaws.{import_erased, local_erased}
use Rattle.collapse_passes.proofs.erased.Statement.{statement}
use Rattle.table_access.specs.Tables.{lines_in}
use Rattle.collapse_passes.proofs.erased.Tie as tie

returns : tie.Need-returns-then-is_import
returns c =
    let a = c in
    import_erased (lines_in a.args.t.now) a.requires.0.passed a.args.d a.requires.1.0 (sym c.is_import.ensures ∙ c.if-is_import.true) c.verdict_number.result c.verdict_number.ensures

returns-2 : tie.Need-returns
returns-2 c =
    let a = c in
    local_erased (lines_in a.args.t.now) a.requires.0.passed a.args.d a.requires.1.0 (sym c.is_import.ensures ∙ c.if-is_import.false) a.args.decl.now a.requires.1.1.marks

pub erased_spec : {M : Type 1} → statement M
erased_spec = tie.close (tie.spec (λ c κs. search rules) (λ c κs. search rules) returns (λ c. search rules) returns-2)
