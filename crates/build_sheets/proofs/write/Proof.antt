-- `build_sheets::write` meets its contract: each sheet by its own writer. Assumes nothing.
use borrow.Author.Rules.{rules}
use Rattle.sheet.specs.Format.{base}
use Rattle.table_declared.specs.PassedLaws.{decls_within}
use Rattle.build_sheets.proofs.write.Statement.{statement}
use Rattle.build_sheets.proofs.write.Tie as tie

records-requires : tie.Need-records-requires
records-requires c κs =
    let p = c.requires in
    ((p.0.ready, p.1.0), (p.0.keeps, decls_within base _ p.0.of.bounded))

put-left-requires : tie.Need-put_left-requires
put-left-requires c κs =
    let p = c.requires in
    ((p.0.of, p.0.ready), ((p.1.0, p.1.1.fit), ((p.0.keeps, p.0.stacked), ((p.1.1.args_are, p.1.1.types_are), p.1.1.left_room))))

pub write_spec : {M : Type 1} → statement M
write_spec =
    tie.close
    (tie.spec
    (λ c. search rules)
    records-requires
    (λ c. search rules)
    (λ c κs. search rules)
    put-left-requires
    (λ c. search rules)
    (λ c. search rules)
    (λ c. search rules)
    (λ c. search rules)
    (λ c. search rules))
