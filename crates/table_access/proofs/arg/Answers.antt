-- `table_access::arg` meets its contract: the cell is the A line's. Assumes nothing.
use mathlib.Core.Path.{◌∙◌}
use native.Mathlib.Omega.{arith}
use borrow.Author.Rules.{rules}
use Rattle.table_access.specs.Tables.{lines_in}
use Rattle.table_access.specs.CellsLaws.{read_arg}
use Rattle.table_access.proofs.arg.Goals as goal

pub overflow_mul-i : goal.overflow_mul-i
overflow_mul-i c = let a = c in omega (arith, (read_arg (lines_in a.args.t.now) a.args.t.now a.requires.tabled a.args.i a.requires.i_bound).within.in_section)

pub cell-requires : goal.cell-requires
cell-requires c = let a = c in (read_arg (lines_in a.args.t.now) a.args.t.now a.requires.tabled a.args.i a.requires.i_bound).within

pub returns : goal.returns
returns c = let a = c in c.cell.ensures ∙ (read_arg (lines_in a.args.t.now) a.args.t.now a.requires.tabled a.args.i a.requires.i_bound).value
