-- `left_places::put_line` meets its contract: the line goes to its own 32 bytes.
use native.Mathlib.Omega.{arith}
use Rattle.sheet.specs.Line.{row}
use Rattle.sheet.proofs.LineLaws.{row_length}
use Rattle.left_places.specs.PlacesLaws.{line_room, line_writes}
use borrow.Author.Rules.{rules}
use Rattle.left_places.proofs.put_line.Goals as goal

pub row_at-requires : goal.row_at-requires
row_at-requires c =
    let a = c.args in
    line_room (row a.letter a.numbers) a.p a.out.now c.requires

pub overflow_add-result : goal.overflow_add-result
overflow_add-result c =
    let a = c.args in
    omega (arith, line_room (row a.letter a.numbers) a.p a.out.now c.requires)

pub returns : goal.returns
returns c =
    let a = c.args in
    line_writes (row a.letter a.numbers) a.p a.out.now _ (row_length 6 a.letter a.numbers (search rules)) c.row_at.ensures
