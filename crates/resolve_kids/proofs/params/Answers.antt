-- `resolve_kids::params` meets its contract.
use Rattle.std.proofs.Common.{arith}
use Rattle.table_declared.specs.PassedLaws.{decls_few}
use Rattle.table_access.specs.Tables.{lines_in}
use Rattle.resolve_kids.specs.ParamsLaws.{counted_of}
use Rattle.resolve_kids.proofs.params.Goals as goal

pub overflow_add-d : goal.overflow_add-d
overflow_add-d c = omega (arith, c.requires.1, decls_few (lines_in c.args.t.now) c.requires.0.passed)

pub returns : goal.returns
returns c = counted_of _ _ _ _ _ c.first_param-first.ensures c.first_param-end.ensures c.saturating_sub.ensures
