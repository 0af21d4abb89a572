-- `reach_sets::named` meets its contract. Assumes nothing.
use native.Mathlib.Omega.{arith}
use borrow.Author.Rules.{rules}
use Rattle.sheet.specs.Format.{base}
use Rattle.table_declared.specs.PassedLaws.{decls_within}
use Rattle.table_access.specs.Tables.{lines_in}
use Rattle.reach_sets.proofs.named.Statement.{statement}
use Rattle.reach_sets.proofs.named.Tie as tie

mentions-requires : tie.Need-mentions-requires
mentions-requires c κs =
    let s = c in
    (s.requires.0.0.tabled, (omega (arith, decls_within base (lines_in s.args.t.now) s.requires.0.0.bounded), s.requires.1))

pub named_spec : {M : Type 1} → statement M
named_spec =
    tie.close
    (tie.spec
    mentions-requires
    (λ c κs. search rules)
    (λ c. search rules)
    (λ c. search rules)
    (λ c. search rules))
