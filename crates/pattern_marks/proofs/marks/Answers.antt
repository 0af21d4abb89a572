-- `pattern_marks::marks` meets its contract, line after line.
use Rattle.std.proofs.Common.{arith}
use Rattle.walk_cells.specs.Cells.{lines_of}
use Rattle.walk_cells.specs.CellsLaws.{length_lines_of}
use Rattle.table_access.specs.Tables.{lines_in}
use Rattle.pattern_marks.specs.TablesLaws.{marks_none, marks_next}
use Rattle.pattern_marks.proofs.marks.Goals as goal

pub loop-i-init : goal.loop-i-init
loop-i-init c = let a = c.args in marks_none (lines_in a.t.now) a.u.now a.m.now (lines_of a.q.now) a.marks.now

pub mark_at-requires : goal.mark_at-requires
mark_at-requires c = (c.requires.0, omega (arith, length_lines_of c.args.q.now))

pub bounds-marks-i : goal.bounds-marks-i
bounds-marks-i c = omega (arith, length_lines_of c.args.q.now, c.requires.1)

pub loop-i-preserved : goal.loop-i-preserved
loop-i-preserved c =
    let a = c.args in
    let l = c.loop-i in
    marks_next (lines_in a.t.now) a.u.now a.m.now (lines_of a.q.now) l.marks l.i c.mark_at.result (omega (arith, length_lines_of a.q.now, c.requires.1)) c.mark_at.ensures l.invariant

pub returns : goal.returns
returns c = record { mark = λ i h. c.loop-i.invariant.mark i (omega (arith, length_lines_of c.args.q.now)) }
