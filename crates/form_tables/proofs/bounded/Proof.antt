-- `form_tables::bounded` meets its contract. Assumes nothing.
use native.Mathlib.Omega.{arith}
use Rattle.form_tables.specs.Bounds.{starts_own, ends_own}
use borrow.Author.Rules.{rules}
use Rattle.table_declared.specs.PassedLaws.{decls_few}
use Rattle.form_tables.proofs.bounded.Statement.{statement}
use Rattle.form_tables.proofs.bounded.Tie as tie

starts-requires : tie.Need-starts-requires
starts-requires c κs =
    let p = c.requires.0.0 in
    omega (arith, p.ranks, decls_few _ p.tabled.passed)

ends-requires : tie.Need-ends-requires
ends-requires c κs =
    let p = c.requires in
    (omega (arith, p.0.0.ranks, decls_few _ p.0.0.tabled.passed), λ r. omega (arith, p.1.1 r))

ranked-requires : tie.Need-ranked-requires
ranked-requires c κs =
    let p = c.requires in
    let s = c.starts.ensures in
    let e = c.ends.ensures in
    (p.0, ((starts_own _ _ _ s, ends_own _ _ _ e), (omega (arith, s.long, p.1.0.0), omega (arith, e.long, p.1.0.1))))

pub bounded_spec : {M : Type 1} → statement M
bounded_spec =
    tie.close
    (tie.spec
    starts-requires
    ends-requires
    ranked-requires
    (λ c. search rules)
    (λ c. search rules)
    (λ c. search rules)
    (λ c. search rules)
    (λ c. search rules))
