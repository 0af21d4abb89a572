-- `pattern_lines::good_name` meets its contract, by the kind. Assumes nothing.
use borrow.Author.Tests.{ne_eqb}
use Rattle.meaning_patterns.specs.Patterns.{good_name}
use borrow.Author.Rules.{rules}
use Rattle.pattern_rows.proofs.pattern_lines.good_name.Statement.{statement}
use Rattle.pattern_rows.proofs.pattern_lines.good_name.Tie as tie

returns : tie.Need-returns-in-1
unfolding good_name
returns c = rw (← c.number-kind.ensures, c.in-1.is, c.number-name.ensures)

returns-2 : tie.Need-returns-in-2
unfolding good_name
returns-2 c = rw (← c.number-kind.ensures, c.in-2.is)

returns-3 : tie.Need-returns-in-3
unfolding good_name
returns-3 c = rw (← c.number-kind.ensures, c.in-3.is, c.number-name.ensures)

returns-4 : tie.Need-returns-in-4
unfolding good_name
returns-4 c = rw (← c.number-kind.ensures, c.in-4.is, c.number-name.ensures)

returns-5 : tie.Need-returns-in_default
unfolding good_name
returns-5 c =
    rw (← c.number-kind.ensures, ne_eqb _ 2 c.in_default.in_default-own.rest.0.0.1, ne_eqb _ 1 c.in_default.in_default-own.rest.0.0.0.1, ne_eqb _ 3 c.in_default.in_default-own.rest.0.1, ne_eqb _ 4 c.in_default.in_default-own.rest.1, c.number-name.ensures)

pub good_name_spec : {M : Type 1} → statement M
good_name_spec =
    tie.close
    (tie.spec
    (λ c κs. search rules)
    (λ c κs. search rules)
    (λ c. search rules)
    returns
    returns-2
    returns-3
    returns-4
    returns-5)
