-- `row7_verdicts::decl_at` meets its contract, by the letter. Assumes nothing.
use Rattle.std.proofs.Common.{arith}
use Rattle.std.specs.Prelude.{eqb}
use Rattle.walk_cells.specs.Cells.{lines_of}
use Rattle.meaning.specs.Rows.{nth_line}
use Rattle.row7_verdicts.specs.VerdictsLaws.{decl_local, decl_import, decl_later, decl_member, told, pick_le}
use Rattle.row7_verdicts.proofs.decl_at.Goals as goal

pub returns-then-letter-eq73 : goal.returns-then-letter-eq73
returns-then-letter-eq73 c =
    let a = c.args in
    decl_import a.d (nth_line (lines_of a.t.now) a.i) c.letter-letter.result c.letter-letter.ensures a.i c.if-letter-eq73.true c.pick-step.result (rw (← c.number.ensures) c.pick-step.ensures)

pub returns-then-letter-gt70 : goal.returns-then-letter-gt70
returns-then-letter-gt70 c =
    let a = c.args in
    decl_later a.d (nth_line (lines_of a.t.now) a.i) c.letter-letter.result c.letter-letter.ensures a.i c.if-letter-gt70.true c.if-letter-eq73.false

pub returns-then-letter-eq68 : goal.returns-then-letter-eq68
returns-then-letter-eq68 c =
    let a = c.args in
    decl_local a.d (nth_line (lines_of a.t.now) a.i) c.letter-letter.result c.letter-letter.ensures a.i c.if-letter-eq68.true

pub overflow_add-result : goal.overflow_add-result
overflow_add-result c = omega (arith, pick_le (eqb c.letter-letter.result 70) c.number-third.result)

pub returns : goal.returns
returns c =
    let a = c.args in
    let x = c.letter-letter in
    let l = nth_line (lines_of a.t.now) a.i in
    let m = told a.d l x.result x.ensures c.requires.lettered.0 c.if-letter-gt70.false c.if-letter-eq68.false in
    rw (c.pick-keep.ensures, c.pick-tag.ensures) (decl_member a.d l x.result x.ensures a.i m c.requires.lettered.1 c.number-third.result c.number-third.ensures)
