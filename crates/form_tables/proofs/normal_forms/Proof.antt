-- `form_tables::normal_forms` meets its contract: there are at most as many ranks as declarations. Assumes nothing.
use native.Mathlib.Omega.{arith}
use borrow.Author.Rules.{rules}
use Rattle.sheet.specs.Format.{base}
use Rattle.table_declared.specs.PassedLaws.{decls_within}
use Rattle.form_tables.specs.Bounded.{zeros}
use Rattle.form_tables.proofs.normal_forms.Statement.{statement}
use Rattle.form_tables.proofs.normal_forms.Tie as tie

bounded-requires : tie.Need-bounded-requires
bounded-requires c κs =
    let p = c.requires in
    let n = decls_within base _ p.2 in
    ((p.0, p.1), ((omega (arith, n), omega (arith, n)), zeros 96))

pub normal_forms_spec : {M : Type 1} → statement M
normal_forms_spec =
    tie.close
    (tie.spec
    (λ c. search rules)
    (λ c. search rules)
    bounded-requires
    (λ c. search rules)
    (λ c. search rules)
    (λ c. search rules))
