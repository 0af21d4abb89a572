-- `repeats::repeats` meets its contract, by the letter. Assumes nothing.
use Rattle.std.proofs.Common.{refl, arith, ◌<◌, ◌+◌}
use Rattle.sheet.specs.Line.{letter, number}
use Rattle.walk_cells.specs.Cells.{lines_of}
use Rattle.meaning.specs.Rows.{nth_line}
use Rattle.row6_distinct.specs.WaysLaws.{told, member_place, after_member, after_head}
use Rattle.row6_distinct.proofs.repeats.repeats.Goals as goal

pub returns-then-letter-eq68 : goal.returns-then-letter-eq68
returns-then-letter-eq68 c =
    let a = c.args in
    after_head (nth_line (lines_of a.t.now) a.i) a.g a.declared.now a.params.now a.members.now (letter (nth_line (lines_of a.t.now) a.i)) (number (nth_line (lines_of a.t.now) a.i) 0) refl refl c.head_repeats.result _ _ c.head_repeats.ensures

pub seen-requires : goal.seen-requires
seen-requires c =
    let a = c.args in
    let l = c.letter-letter in
    let m = told (nth_line (lines_of a.t.now) a.i) a.g l.result l.ensures c.requires.lettered c.if-letter-gt70.false c.if-letter-eq68.false in
    let h : c.pick.result + c.number-x.result < 512 = rw c.pick.ensures (member_place (nth_line (lines_of a.t.now) a.i) a.g a.declared.now a.params.now a.members.now l.result c.number-x.result l.ensures c.number-x.ensures c.requires.i_in_bounds.1 m) in
    (omega arith, h)

pub returns : goal.returns
returns c =
    let a = c.args in
    let l = c.letter-letter in
    let m = told (nth_line (lines_of a.t.now) a.i) a.g l.result l.ensures c.requires.lettered c.if-letter-gt70.false c.if-letter-eq68.false in
    after_member (nth_line (lines_of a.t.now) a.i) a.g a.declared.now a.params.now a.members.now l.result c.number-x.result l.ensures c.number-x.ensures c.requires.i_in_bounds.1 m c.seen.result c.seen.new.last
    (rw (c.pick.ensures, c.pick-group.ensures) at c.seen.ensures.value)
    (rw (c.pick.ensures, c.pick-group.ensures) at c.seen.ensures.last_after)
