-- The words passed are united.
use Rattle.mention_types.specs.AddsLaws.{Words}
use Rattle.table_access.specs.Tables.{lines_in}
use Rattle.mention_types.proofs.sets.add_list.Given as goal

abbrev pub invariant-loop-w : goal.invariant-loop-w
invariant-loop-w l = Words (lines_in l.t) l.words l.y l.first l.k l.initial.sets l.sets l.w
