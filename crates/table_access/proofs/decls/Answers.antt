-- `table_access::decls` meets its contract: the header has the count. Assumes nothing.
use native.Mathlib.Omega.{arith}
use Rattle.table_access.specs.CellsLaws.{read_decls}
use Rattle.table_access.specs.Tables.{lines_in}
use Rattle.table_access.proofs.decls.Goals as goal

pub bounds-t-1 : goal.bounds-t-1
bounds-t-1 c = (read_decls (lines_in c.args.t.now) c.args.t.now c.requires).0

pub returns : goal.returns
returns c = (read_decls (lines_in c.args.t.now) c.args.t.now c.requires).1
