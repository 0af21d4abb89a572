-- `table_access::first_param` meets its contract: the cell is the count of lines before the declaration. Assumes nothing.
use mathlib.Core.Path.{◌∙◌}
use native.Mathlib.Omega.{arith}
use borrow.Author.Rules.{rules}
use Rattle.table_access.specs.CellsLaws.{read_begin}
use Rattle.table_access.specs.Tables.{lines_in}
use Rattle.table_access.proofs.first_param.Goals as goal

pub overflow_mul-d : goal.overflow_mul-d
overflow_mul-d c = let a = c in omega (arith, (read_begin (lines_in a.args.t.now) a.args.t.now a.requires.tabled a.args.d 1 a.requires.d_bound (omega arith)).within.in_section)

pub overflow_add-d : goal.overflow_add-d
overflow_add-d c = let a = c in omega (arith, (read_begin (lines_in a.args.t.now) a.args.t.now a.requires.tabled a.args.d 1 a.requires.d_bound (omega arith)).within.in_section)

pub cell-requires : goal.cell-requires
cell-requires c = let a = c in (read_begin (lines_in a.args.t.now) a.args.t.now a.requires.tabled a.args.d 1 a.requires.d_bound (omega arith)).within

pub returns : goal.returns
returns c = let a = c in c.cell.ensures ∙ (read_begin (lines_in a.args.t.now) a.args.t.now a.requires.tabled a.args.d 1 a.requires.d_bound (omega arith)).value
