-- `build::build` meets its contract: row 1, and then the rest with as many cells as the lines need. Assumes nothing.
use mathlib.Core.Path.{◌≡◌, sym, ◌∙◌}
use mathlib.Core.Bool.{false}
use native.Mathlib.Omega.{arith}
use borrow.Author.Rules.{rules}
use Rattle.sheet.specs.Format.{base}
use Rattle.sheet.specs.Sheet.{row1}
use Rattle.row4_limits.specs.LimitsLaws.{short_bytes}
use Rattle.input_rows.specs.JudgingLaws.{input_one}
use Rattle.build.specs.BuildLaws.{gives_input}
use Rattle.build.proofs.build.Statement.{statement}
use Rattle.build.proofs.build.Tie as tie

returns : tie.Need-returns-then-row1
returns c =
    let a = c.args in
    rw c.refused.ensures (gives_input a.s.now a.v.now a.l.now 1 0 (input_one a.s.now (sym c.row1.ensures ∙ c.if-row1.true)))

checked-requires : tie.Need-checked-requires
checked-requires c κs =
    let e = c in
    let s = e.args.s.now in
    let h : row1 base s ≡ false = sym e.row1.ensures ∙ e.if-row1.false in
    (h, omega (arith, short_bytes s h))

checked-requires-2 : tie.Need-checked-requires-then-s-le-SMALL
checked-requires-2 c κs =
    let e = c in
    let s = e.args.s.now in
    let h : row1 base s ≡ false = sym e.row1.ensures ∙ e.if-row1.false in
    (h, omega (arith, short_bytes s h))

checked-requires-3 : tie.Need-checked-requires-then-s-le-MIDDLE
checked-requires-3 c κs =
    let e = c in
    let s = e.args.s.now in
    let h : row1 base s ≡ false = sym e.row1.ensures ∙ e.if-row1.false in
    (h, omega (arith, short_bytes s h))

checked-requires-4 : tie.Need-checked-requires-then-s-le-LARGE
checked-requires-4 c κs =
    let e = c in
    let s = e.args.s.now in
    let h : row1 base s ≡ false = sym e.row1.ensures ∙ e.if-row1.false in
    (h, omega (arith, short_bytes s h))

checked-requires-5 : tie.Need-checked-requires-then-s-le-HALF
checked-requires-5 c κs =
    let e = c in
    let s = e.args.s.now in
    let h : row1 base s ≡ false = sym e.row1.ensures ∙ e.if-row1.false in
    (h, omega (arith, short_bytes s h))

checked-requires-6 : tie.Need-checked-requires-2
checked-requires-6 c κs =
    let e = c in
    let s = e.args.s.now in
    let h : row1 base s ≡ false = sym e.row1.ensures ∙ e.if-row1.false in
    (h, omega (arith, short_bytes s h))

pub build_spec : {M : Type 1} → statement M
build_spec =
    tie.close
    (tie.spec
    (λ c κs. search rules)
    (λ c κs. search rules)
    returns
    (λ c. search rules)
    checked-requires
    (λ c. search rules)
    (λ c. search rules)
    (λ c. search rules)
    (λ c. search rules)
    checked-requires-2
    (λ c. search rules)
    (λ c. search rules)
    (λ c. search rules)
    (λ c. search rules)
    checked-requires-3
    (λ c. search rules)
    (λ c. search rules)
    (λ c. search rules)
    (λ c. search rules)
    checked-requires-4
    (λ c. search rules)
    (λ c. search rules)
    (λ c. search rules)
    (λ c. search rules)
    checked-requires-5
    (λ c. search rules)
    (λ c. search rules)
    (λ c. search rules)
    (λ c. search rules)
    checked-requires-6
    (λ c. search rules)
    (λ c. search rules)
    (λ c. search rules))
