-- `row7_verdicts::declared_verdict` meets its contract, by the letter of the declaration's first line. Assumes nothing.
use mathlib.Core.Path.{sym, ◌∙◌}
use native.Mathlib.Omega.{arith}
use borrow.Author.Tests.{ne_eqb}
use borrow.Author.Rules.{rules}
use Rattle.walk_cells.specs.Cells.{lines_of}
use Rattle.walk_cells.specs.CellsLaws.{length_lines_of}
use Rattle.row7_verdicts.specs.VerdictsLaws.{declared_none}
use Rattle.row7_verdicts.proofs.declared_verdict.Statement.{statement}
use Rattle.row7_verdicts.proofs.declared_verdict.Tie as tie

returns : tie.Need-returns-then-head-t
returns c =
    let a = c.args in
    c.no_verdict.ensures ∙ sym (declared_none (lines_of a.t.now) a.head (omega (arith, length_lines_of a.t.now)) _ _)

returns-2 : tie.Need-returns-in-73
returns-2 c = rw (c.good_verdict.ensures, ← c.letter-begins.ensures, c.in-73.is)

returns-3 : tie.Need-returns-in_default
returns-3 c = rw (c.no_verdict-in_default.ensures, ← c.letter-begins.ensures, ne_eqb _ _ c.in_default.in_default-own.rest.1)

pub declared_verdict_spec : {M : Type 1} → statement M
declared_verdict_spec =
    tie.close
    (tie.spec (λ c κs. search rules) returns (λ c κs. search rules) (λ c κs. search rules) (λ c κs. search rules) returns-2 returns-3)
