-- `row9_faults::many` meets its contract, whichever arrays it takes.
use Rattle.std.proofs.Common.{arith}
use Rattle.table_access.specs.Tables.{lines_in}
use Rattle.row9_faults.specs.Rows9Laws.{comes_less}
use Rattle.row9_faults.proofs.many.Goals as goal

pub returns : goal.returns
returns c = comes_less (lines_in c.args.t.now) 768 1000 _ (omega arith) c.with-2.ensures
