-- `table_access::is_import` meets its contract: the cell is the letter of the declaration's first line. Assumes nothing.
use mathlib.Core.Path.{ap, ◌∙◌}
use Prim.Native.Nat.{ℕ, ◌<◌}
use native.Mathlib.Omega.{arith}
use lib.Dec.{eqb}
use lib.ListN.{length}
use Rattle.sheet.specs.Line.{letter}
use Rattle.meaning.specs.Rows.{nth_line}
use Rattle.table_access.specs.Tables.{lines_in}
use Rattle.table_access.specs.CellsLaws.{head_inside, read_letter, read_head_letter}
use Rattle.table_access.proofs.is_import.Goals as goal

pub overflow_mul-result : goal.overflow_mul-result
overflow_mul-result c =
    let a = c in
    let i : c.line_of-i.result < length (lines_in a.args.t.now) = omega (arith, c.line_of-i.ensures, head_inside (lines_in a.args.t.now) a.args.t.now a.requires.tabled a.args.d a.requires.d_bound) in
    omega (arith, (read_letter (lines_in a.args.t.now) a.args.t.now a.requires.tabled c.line_of-i.result i).0)

pub overflow_add-result : goal.overflow_add-result
overflow_add-result c =
    let a = c in
    let i : c.line_of-i.result < length (lines_in a.args.t.now) = omega (arith, c.line_of-i.ensures, head_inside (lines_in a.args.t.now) a.args.t.now a.requires.tabled a.args.d a.requires.d_bound) in
    omega (arith, (read_letter (lines_in a.args.t.now) a.args.t.now a.requires.tabled c.line_of-i.result i).0)

pub offset_bounds-t-i : goal.offset_bounds-t-i
offset_bounds-t-i c =
    let a = c in
    let i : c.line_of-i.result < length (lines_in a.args.t.now) = omega (arith, c.line_of-i.ensures, head_inside (lines_in a.args.t.now) a.args.t.now a.requires.tabled a.args.d a.requires.d_bound) in
    omega (arith, (read_letter (lines_in a.args.t.now) a.args.t.now a.requires.tabled c.line_of-i.result i).0)

pub bounds-t-i : goal.bounds-t-i
bounds-t-i c =
    let a = c in
    let i : c.line_of-i.result < length (lines_in a.args.t.now) = omega (arith, c.line_of-i.ensures, head_inside (lines_in a.args.t.now) a.args.t.now a.requires.tabled a.args.d a.requires.d_bound) in
    (read_letter (lines_in a.args.t.now) a.args.t.now a.requires.tabled c.line_of-i.result i).0

pub returns : goal.returns
returns c =
    let a = c in
    let i : c.line_of-i.result < length (lines_in a.args.t.now) = omega (arith, c.line_of-i.ensures, head_inside (lines_in a.args.t.now) a.args.t.now a.requires.tabled a.args.d a.requires.d_bound) in
    ap (λ (x : ℕ). eqb x 73)
    ((read_letter (lines_in a.args.t.now) a.args.t.now a.requires.tabled c.line_of-i.result i).1
    ∙ ap (λ (j : ℕ). letter (nth_line (lines_in a.args.t.now) j)) c.line_of-i.ensures
    ∙ read_head_letter (lines_in a.args.t.now) a.args.t.now a.requires.tabled a.args.d a.requires.d_bound)
