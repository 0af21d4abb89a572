-- `table_access::line_number` meets its contract: the cell is the line's. Assumes nothing.
use native.Mathlib.Omega.{arith}
use Rattle.table_access.specs.Tables.{lines_in}
use Rattle.table_access.specs.CellsLaws.{read_number}
use Rattle.table_access.proofs.line_number.Goals as goal

pub bounds-t-i : goal.bounds-t-i
bounds-t-i c = let a = c in (read_number (lines_in a.args.t.now) a.args.t.now a.requires.tabled a.args.i a.args.k a.requires.i_in_bounds.0 a.requires.i_in_bounds.1).0

pub returns : goal.returns
returns c = let a = c in (read_number (lines_in a.args.t.now) a.args.t.now a.requires.tabled a.args.i a.args.k a.requires.i_in_bounds.0 a.requires.i_in_bounds.1).1
