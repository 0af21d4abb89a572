-- `build_outputs::larger` meets its contract: the last attempt has room. Assumes nothing.
use Rattle.std.proofs.Common.{ap}
use Rattle.std.specs.Prelude.{is_some}
use Rattle.sheet.specs.Format.{base}
use Rattle.table_declared.specs.PassedLaws.{decls_within}
use Rattle.build_outputs.specs.OutputsLaws.{tries_last}
use Rattle.build_outputs.proofs.larger.Goals as goal

pub unwrap-requires : goal.unwrap-requires
unwrap-requires c = ap is_some (tries_last _ (decls_within base _ c.requires.lent.of.bounded) _ _ _ _ _ _ c.within-third.ensures).1
