-- `pattern_lines::good_previous` meets its contract, test by test. Assumes nothing.
use borrow.Author.Tests.{ne_eqb}
use Rattle.meaning_patterns.specs.Patterns.{good_previous}
use borrow.Author.Rules.{rules}
use Rattle.pattern_rows.proofs.pattern_lines.good_previous.Statement.{statement}
use Rattle.pattern_rows.proofs.pattern_lines.good_previous.Tie as tie

returns : tie.Need-returns-then-previous-eq0
unfolding good_previous
returns c = rw (← c.number-previous.ensures, c.if-previous-eq0.true)

returns-2 : tie.Need-returns-then-field-eq0
unfolding good_previous
returns-2 c =
    let m = c in
    rw (← m.number-previous.ensures, ne_eqb _ 0 c.if-previous-eq0.false, ← c.number-field.ensures, c.if-field-eq0.true, c.number-before.ensures)

returns-3 : tie.Need-returns
unfolding good_previous
returns-3 c =
    let m = c in
    rw (← m.number-previous.ensures, ne_eqb _ 0 c.if-previous-eq0.false, ← c.number-field.ensures, ne_eqb _ 0 c.if-field-eq0.false, c.number-before.ensures)

pub good_previous_spec : {M : Type 1} → statement M
good_previous_spec =
    tie.close
    (tie.spec
    (λ c κs. search rules)
    (λ c. search rules)
    returns
    (λ c κs. search rules)
    (λ c. search rules)
    (λ c κs. search rules)
    returns-2
    returns-3)
