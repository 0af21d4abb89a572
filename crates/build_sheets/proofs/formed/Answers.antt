-- `build_sheets::formed` meets its contract. Assumes nothing.
use Rattle.sheet.specs.Format.{base}
use Rattle.table_declared.specs.PassedLaws.{decls_within}
use Rattle.build_sheets.proofs.formed.Goals as goal

pub flags-requires : goal.flags-requires
flags-requires c = let p = c.requires.known in (p.ready, decls_within base _ p.of.bounded)
