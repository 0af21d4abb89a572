-- `collapse_candidates::may_collapse` meets its contract, by the declaration's letter, mark and flags. Assumes nothing.
use mathlib.Core.Path.{sym, ◌∙◌}
use native.Mathlib.Omega.{arith}
use borrow.Author.Rules.{rules}
use Rattle.collapse_candidates.specs.CandidatesLaws.{import_none, erased_none, by_flag}
use Rattle.collapse_candidates.proofs.may_collapse.Statement.{statement}
use Rattle.table_access.specs.Tables.{lines_in}
use Rattle.collapse_candidates.proofs.may_collapse.Tie as tie

returns : tie.Need-returns-then-is_import
returns c = let a = c in import_none (lines_in a.args.t.now) a.args.d a.requires.1.0 (sym c.is_import.ensures ∙ c.if-is_import.true)

shared-slice-read-if2 : tie.Need-bounds-decl-d
shared-slice-read-if2 c = let a = c in omega (arith, a.requires.1.0, a.requires.1.1.long)

returns-2 : tie.Need-returns-then-decl-d-eq1
returns-2 c =
    let a = c in
    erased_none (lines_in a.args.t.now) a.args.d a.requires.1.0 a.args.decl.now a.requires.1.1.marks (sym c.is_import.ensures ∙ c.if-is_import.false) c.if-decl-d-eq1.true

returns-3 : tie.Need-returns
returns-3 c =
    let a = c in
    by_flag (lines_in a.args.t.now) a.args.d a.requires.1.0 a.args.decl.now a.requires.1.1.marks (sym c.is_import.ensures ∙ c.if-is_import.false) c.if-decl-d-eq1.false c.decl_number.result c.decl_number.ensures

pub may_collapse_spec : {M : Type 1} → statement M
may_collapse_spec = tie.close (tie.spec (λ c κs. search rules) returns shared-slice-read-if2 returns-2 (λ c κs. search rules) returns-3)
