-- `decl_lines::good_part` meets its contract: what is left is a C or an F line.
use Rattle.std.proofs.Common.{◌≡◌, ◌∙◌, ◌<◌, ⊎_elim, arith, length}
use Rattle.sheet.specs.Line.{letter}
use Rattle.walk_cells.specs.Cells.{lines_of}
use Rattle.walk_cells.specs.CellsLaws.{length_lines_of}
use Rattle.meaning.specs.Rows.{nth_line, good_numbers}
use Rattle.rows_header.specs.LettersLaws.{lettered}
use Rattle.row5_ranges.specs.DeclLinesLaws.{ctor_good, field_good}
use Rattle.row5_ranges.proofs.decl_lines.good_part.Goals as goal

pub returns : goal.returns
unfolding good_numbers
returns c =
    let a = c.args in
    let p = c.requires in
    let e = c.letter-letter.ensures in
    let ls = lines_of a.t.now in
    let l = nth_line ls a.i in
    let i : a.i < length ls = omega (arith, length_lines_of a.t.now) in
    let k = (lettered ls p.counted.in_order a.i (omega arith) i).member (omega (arith, c.if-letter-gt70.false)) (λ q. c.if-letter-eq68.false (e ∙ q)) in
    ⊎_elim
    (λ (q : letter l ≡ 67). rw (c.good_member.ensures, e, q, ← (ctor_good a.names a.types l), ← p.counted.names_are))
    (λ (q : letter l ≡ 70). rw (c.good_member.ensures, e, q, ← (field_good a.names a.types l), ← p.counted.names_are, ← p.counted.types_are))
    k
