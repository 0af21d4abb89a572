-- `pattern_lines::good_whole` meets its contract: the last line is the one before the count of lines. Assumes nothing.
use Rattle.std.proofs.Common.{suc, arith, length, eq-eqb, ne_eqb}
use Rattle.walk_cells.specs.Cells.{lines_of}
use Rattle.walk_cells.specs.CellsLaws.{length_lines_of}
use Rattle.pattern_rows.proofs.pattern_lines.good_whole.Goals as goal

pub returns-then-i-q : goal.returns-then-i-q
returns-then-i-q c =
    let a = c.args in
    rw (ne_eqb (suc a.i) (length (lines_of a.q.now)) (λ e. c.if-i-q.true (omega (arith, length_lines_of a.q.now))))

pub returns : goal.returns
returns c =
    let a = c.args in
    rw (eq-eqb (suc a.i) (length (lines_of a.q.now)) (omega (arith, length_lines_of a.q.now, c.if-i-q.false)), c.number-2.ensures, c.number.ensures)
