-- `reach_index::taken` meets its contract. Assumes nothing.
use native.Mathlib.Omega.{arith}
use borrow.Author.Rules.{rules}
use Rattle.sheet.specs.Format.{base}
use Rattle.table_declared.specs.PassedLaws.{decls_within}
use Rattle.table_access.specs.Tables.{lines_in}
use Rattle.reach_index.proofs.taken.Statement.{statement}
use Rattle.reach_index.proofs.taken.Tie as tie

put-names-requires : tie.Need-put_names-requires
put-names-requires c κs = let s = c in (s.requires.0, omega (arith, decls_within base (lines_in s.args.t.now) s.requires.0.bounded, s.requires.1.cells))

returns : tie.Need-returns
returns c = record { index = c.fill.ensures; fit = λ k. (c.slice_known-3-1.given k).fits; names_are = c.put_names.ensures.each }

pub taken_spec : {M : Type 1} → statement M
taken_spec =
    tie.close
    (tie.spec
    (λ c κs. search rules)
    put-names-requires
    (λ c. search rules)
    (λ c. search rules)
    returns)
