-- `repeats::later_repeats` meets its contract, by the letter. Assumes nothing.
use Rattle.std.proofs.Common.{refl, arith}
use Rattle.sheet.specs.Line.{letter, number}
use Rattle.walk_cells.specs.Cells.{lines_of}
use Rattle.meaning.specs.Rows.{nth_line}
use Rattle.row6_distinct.specs.WaysLaws.{param_named, after_head}
use Rattle.row6_distinct.proofs.repeats.later_repeats.Goals as goal

pub seen-requires : goal.seen-requires
seen-requires c =
    let a = c.args in
    (omega arith, param_named (nth_line (lines_of a.t.now) a.i) a.g a.declared.now a.params.now a.members.now a.members.now c.letter-letter.result c.number-x.result c.letter-letter.ensures c.number-x.ensures c.requires.i_in_bounds.1 c.in-80.is)

pub returns-in-73 : goal.returns-in-73
returns-in-73 c =
    let a = c.args in
    after_head (nth_line (lines_of a.t.now) a.i) a.g a.declared.now a.params.now a.members.now (letter (nth_line (lines_of a.t.now) a.i)) (number (nth_line (lines_of a.t.now) a.i) 0) refl refl c.head_repeats.result _ _ c.head_repeats.ensures
