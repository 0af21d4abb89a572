-- `table_access::names` meets its contract: the header has the count. Assumes nothing.
use native.Mathlib.Omega.{arith}
use Rattle.table_access.specs.Tables.{lines_in}
use Rattle.table_access.specs.CellsLaws.{read_names}
use Rattle.table_access.proofs.names.Goals as goal

pub bounds-t-2 : goal.bounds-t-2
bounds-t-2 c = (read_names (lines_in c.args.t.now) c.args.t.now c.requires).0

pub returns : goal.returns
returns c = (read_names (lines_in c.args.t.now) c.args.t.now c.requires).1
