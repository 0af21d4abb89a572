-- `reach_sets::closed` meets its contract: the rows of steps, closed. Assumes nothing.
use native.Mathlib.Omega.{arith}
use borrow.Author.Rules.{rules}
use Rattle.sheet.specs.Format.{base}
use Rattle.table_declared.specs.PassedLaws.{decls_within}
use Rattle.table_access.specs.Tables.{lines_in}
use Rattle.reach_sets.specs.SetsLaws.{steps_of, index_told}
use Rattle.reach_sets.proofs.closed.Statement.{statement}
use Rattle.reach_sets.proofs.closed.Tie as tie

rows-requires : tie.Need-rows-requires
rows-requires c κs =
    let s = c in
    (s.requires.0.0.tabled, (s.requires.1, (omega arith, omega (arith, decls_within base (lines_in s.args.t.now) s.requires.0.0.bounded, s.requires.0.1))))

close-requires : tie.Need-close-requires
close-requires c κs =
    let s = c in
    steps_of (lines_in s.args.t.now) s.args.sets.now _ c.rows.ensures _ c.decls-n.ensures

returns : tie.Need-returns
returns c =
    let s = c in
    let d = c.decls-n in
    rw c.clear.ensures
    (index_told (lines_in s.args.t.now) s.args.sets.now _ c.rows.ensures d.result d.ensures _ c.close.ensures s.requires.0.1 (omega (arith, d.ensures, decls_within base (lines_in s.args.t.now) s.requires.0.0.bounded)))

pub closed_spec : {M : Type 1} → statement M
closed_spec =
    tie.close
    (tie.spec
    (λ c κs. search rules)
    rows-requires
    close-requires
    (λ c. search rules)
    (λ c. search rules)
    (λ c. search rules)
    (λ c κs. search rules)
    (λ c. search rules)
    returns)
