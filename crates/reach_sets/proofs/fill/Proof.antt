-- `reach_sets::fill` meets its contract: no sheet has more types. Assumes nothing.
use native.Mathlib.Omega.{arith}
use borrow.Author.Rules.{rules}
use Rattle.sheet.specs.Format.{base}
use Rattle.table_declared.specs.PassedLaws.{types_within}
use Rattle.table_access.specs.Tables.{lines_in}
use Rattle.reach_sets.proofs.fill.Statement.{statement}
use Rattle.reach_sets.proofs.fill.Tie as tie

named-requires-2 : tie.Need-named-requires-2
named-requires-2 c κs =
    let s = c in
    (s.requires, omega (arith, types_within base (lines_in s.args.t.now) s.requires.0.bounded))

pub fill_spec : {M : Type 1} → statement M
fill_spec =
    tie.close
    (tie.spec
    (λ c κs. search rules)
    (λ c. search rules)
    (λ c κs. search rules)
    (λ c. search rules)
    (λ c. search rules)
    (λ c. search rules)
    named-requires-2
    (λ c. search rules)
    (λ c. search rules))
