-- `table_access::decl_of` meets its contract: the cell is the name's. Assumes nothing.
use mathlib.Core.Path.{◌∙◌}
use borrow.Author.Rules.{rules}
use Rattle.table_access.specs.CellsLaws.{read_name}
use Rattle.table_access.specs.Tables.{lines_in}
use Rattle.table_access.proofs.decl_of.Goals as goal

pub cell-requires : goal.cell-requires
cell-requires c = let a = c in (read_name (lines_in a.args.t.now) a.args.t.now a.requires.tabled a.args.n a.requires.n_bound).within

pub returns : goal.returns
returns c = let a = c in c.cell.ensures ∙ (read_name (lines_in a.args.t.now) a.args.t.now a.requires.tabled a.args.n a.requires.n_bound).value
