-- `input_rows::miscounted_by` meets its contract. Assumes nothing.
use borrow.Author.Rules.{rules}
use Rattle.table_access.specs.Tables.{lines_in}
use Rattle.input_rows.specs.JudgingLaws.{row13_told, good_long}
use Rattle.input_rows.proofs.miscounted_by.Statement.{statement}
use Rattle.input_rows.proofs.miscounted_by.Tie as tie

row13-requires : tie.Need-row13-requires
row13-requires c κs =
    let s = c in
    (s.requires.listed.few, good_long s.args.q.now _ _ c.counts.auto.fields s.requires.listed.good)

returns : tie.Need-returns
returns c =
    let a = c.args in
    row13_told (lines_in a.t.now) c.counts.new.fields a.q.now c.row13.result c.counts.ensures c.row13.ensures

pub miscounted_by_spec : {M : Type 1} → statement M
miscounted_by_spec =
    tie.close
    (tie.spec
    (λ c κs. search rules)
    row13-requires
    (λ c. search rules)
    returns)
