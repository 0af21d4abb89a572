-- `table_access::type_number` meets its contract: the cell is the Y line's. Assumes nothing.
use mathlib.Core.Path.{◌∙◌}
use native.Mathlib.Omega.{arith}
use Rattle.table_access.specs.Tables.{lines_in}
use Rattle.table_access.specs.CellsLaws.{read_type}
use Rattle.table_access.proofs.type_number.Goals as goal

pub overflow_mul-y : goal.overflow_mul-y
overflow_mul-y c = let a = c in omega (arith, (read_type (lines_in a.args.t.now) a.args.t.now a.requires.tabled a.args.y a.args.k a.requires.y_bound.0 a.requires.y_bound.1).within.in_section)

pub overflow_add-y : goal.overflow_add-y
overflow_add-y c = let a = c in omega (arith, (read_type (lines_in a.args.t.now) a.args.t.now a.requires.tabled a.args.y a.args.k a.requires.y_bound.0 a.requires.y_bound.1).within.in_section)

pub cell-requires : goal.cell-requires
cell-requires c = let a = c in (read_type (lines_in a.args.t.now) a.args.t.now a.requires.tabled a.args.y a.args.k a.requires.y_bound.0 a.requires.y_bound.1).within

pub returns : goal.returns
returns c = let a = c in c.cell.ensures ∙ (read_type (lines_in a.args.t.now) a.args.t.now a.requires.tabled a.args.y a.args.k a.requires.y_bound.0 a.requires.y_bound.1).value
