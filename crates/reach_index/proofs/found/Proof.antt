-- `reach_index::found` meets its contract: row 1, and then the rest with as many cells as the lines need. Assumes nothing.
use mathlib.Core.Path.{◌≡◌, sym, ◌∙◌}
use mathlib.Core.Bool.{false}
use native.Mathlib.Omega.{arith}
use borrow.Author.Rules.{rules}
use Rattle.sheet.specs.Format.{base}
use Rattle.sheet.specs.Sheet.{row1}
use Rattle.row4_limits.specs.LimitsLaws.{short_bytes}
use Rattle.input_rows.specs.JudgingLaws.{input_one}
use Rattle.reach_index.specs.IndexingLaws.{finds_refused}
use Rattle.reach_index.proofs.found.Statement.{statement}
use Rattle.reach_index.proofs.found.Tie as tie

returns : tie.Need-returns-then-row1
returns c =
    let a = c.args in
    finds_refused a.s.now a.sets.now _ 1 0 (input_one a.s.now (sym c.row1.ensures ∙ c.if-row1.true))

checked-requires : tie.Need-checked-requires
checked-requires c κs =
    let s = c in
    let h : row1 base s.args.s.now ≡ false = sym c.row1.ensures ∙ c.if-row1.false in
    (h, omega (arith, short_bytes s.args.s.now h), s.requires)

checked-requires-2 : tie.Need-checked-requires-then-s-le-LARGE
checked-requires-2 c κs =
    let s = c in
    let h : row1 base s.args.s.now ≡ false = sym c.row1.ensures ∙ c.if-row1.false in
    (h, omega (arith, short_bytes s.args.s.now h), s.requires)

checked-requires-3 : tie.Need-checked-requires-2
checked-requires-3 c κs =
    let s = c in
    let h : row1 base s.args.s.now ≡ false = sym c.row1.ensures ∙ c.if-row1.false in
    (h, omega (arith, short_bytes s.args.s.now h), s.requires)

pub found_spec : {M : Type 1} → statement M
found_spec =
    tie.close
    (tie.spec
    (λ c κs. search rules)
    returns
    (λ c. search rules)
    checked-requires
    (λ c. search rules)
    (λ c. search rules)
    (λ c. search rules)
    (λ c. search rules)
    checked-requires-2
    (λ c. search rules)
    (λ c. search rules)
    (λ c. search rules)
    (λ c. search rules)
    checked-requires-3
    (λ c. search rules)
    (λ c. search rules)
    (λ c. search rules))
