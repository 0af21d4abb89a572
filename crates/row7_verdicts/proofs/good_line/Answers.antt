-- `row7_verdicts::good_line` meets its contract, by the letter. Assumes nothing.
use Rattle.std.proofs.Common.{arith, ne_eqb}
use Rattle.walk_cells.specs.Cells.{lines_of}
use Rattle.meaning.specs.Rows.{nth_line}
use Rattle.row7_verdicts.specs.VerdictsLaws.{told, good_member}
use Rattle.row7_verdicts.proofs.good_line.Goals as goal

pub returns-then-letter-eq86 : goal.returns-then-letter-eq86
returns-then-letter-eq86 c = rw (c.declared_verdict.ensures, ← c.letter-letter.ensures, c.if-letter-eq86.true)

pub returns-then-letter-gt70 : goal.returns-then-letter-gt70
returns-then-letter-gt70 c =
    let x = c.letter-letter.result in
    rw (← c.letter-letter.ensures, ne_eqb x 67 (λ q. omega (arith, c.if-letter-gt70.true)), ne_eqb x 70 (λ q. omega (arith, c.if-letter-gt70.true)), ne_eqb x 86 c.if-letter-eq86.false)

pub returns-then-letter-eq68 : goal.returns-then-letter-eq68
returns-then-letter-eq68 c = rw (← c.letter-letter.ensures, c.if-letter-eq68.true)

pub returns : goal.returns
returns c =
    let a = c.args in
    let x = c.letter-letter in
    let s = lines_of a.t.now in
    let l = nth_line s a.i in
    let m = told a.d l x.result x.ensures c.requires.2 c.if-letter-gt70.false c.if-letter-eq68.false in
    rw c.pick.ensures (good_member a.d l x.result x.ensures m (nth_line s a.d.head) c.requires.1 c.number-third.result c.number-third.ensures)
