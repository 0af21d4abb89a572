-- `table_access::types` meets its contract: the header has the count. Assumes nothing.
use native.Mathlib.Omega.{arith}
use Rattle.table_access.specs.CellsLaws.{read_types}
use Rattle.table_access.specs.Tables.{lines_in}
use Rattle.table_access.proofs.types.Goals as goal

pub bounds-t-0 : goal.bounds-t-0
bounds-t-0 c = (read_types (lines_in c.args.t.now) c.args.t.now c.requires).0

pub returns : goal.returns
returns c = (read_types (lines_in c.args.t.now) c.args.t.now c.requires).1
