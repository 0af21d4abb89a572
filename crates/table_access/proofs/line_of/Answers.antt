-- `table_access::line_of` meets its contract: the cell is the declaration's line. Assumes nothing.
use mathlib.Core.Path.{◌∙◌}
use native.Mathlib.Omega.{arith}
use borrow.Author.Rules.{rules}
use Rattle.table_access.specs.CellsLaws.{read_line}
use Rattle.table_access.specs.Tables.{lines_in}
use Rattle.table_access.proofs.line_of.Goals as goal

pub overflow_mul-d : goal.overflow_mul-d
overflow_mul-d c = let a = c in omega (arith, (read_line (lines_in a.args.t.now) a.args.t.now a.requires.tabled a.args.d a.requires.d_bound).within.in_section)

pub cell-requires : goal.cell-requires
cell-requires c = let a = c in (read_line (lines_in a.args.t.now) a.args.t.now a.requires.tabled a.args.d a.requires.d_bound).within

pub returns : goal.returns
returns c = let a = c in c.cell.ensures ∙ (read_line (lines_in a.args.t.now) a.args.t.now a.requires.tabled a.args.d a.requires.d_bound).value
