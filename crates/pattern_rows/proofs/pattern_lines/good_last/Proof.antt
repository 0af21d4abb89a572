-- `pattern_lines::good_last` meets its contract, by the kind. Assumes nothing.
use borrow.Author.Tests.{ne_eqb, le-leb, lt-leb}
use Rattle.meaning_patterns.specs.Patterns.{good_last}
use borrow.Author.Rules.{rules}
use Rattle.pattern_rows.proofs.pattern_lines.good_last.Statement.{statement}
use Rattle.pattern_rows.proofs.pattern_lines.good_last.Tie as tie

returns : tie.Need-returns-then-kind-le2
unfolding good_last
returns c = let m = c in rw (← m.number-kind.ensures, le-leb _ _ c.if-kind-le2.true, ← m.number-last.ensures)

returns-2 : tie.Need-returns-then-last-eq0
unfolding good_last
returns-2 c = let m = c in rw (← m.number-kind.ensures, lt-leb _ _ c.if-kind-le2.false, ← m.number-last.ensures, c.if-last-eq0.true)

returns-3 : tie.Need-returns-then-kind-eq4
unfolding good_last
returns-3 c =
    let m = c in
    rw (← m.number-kind.ensures, c.if-kind-eq4.true, ← m.number-last.ensures, ne_eqb _ 0 c.if-last-eq0.false, c.number-field.ensures)

returns-4 : tie.Need-returns
unfolding good_last
returns-4 c =
    let m = c in
    rw (← m.number-kind.ensures, lt-leb _ _ c.if-kind-le2.false, ne_eqb _ 4 c.if-kind-eq4.false, ← m.number-last.ensures, ne_eqb _ 0 c.if-last-eq0.false, c.number-field.ensures)

pub good_last_spec : {M : Type 1} → statement M
good_last_spec =
    tie.close
    (tie.spec
    (λ c κs. search rules)
    (λ c κs. search rules)
    (λ c. search rules)
    returns
    returns-2
    (λ c. search rules)
    (λ c κs. search rules)
    returns-3
    returns-4)
