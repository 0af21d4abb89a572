-- The sets of the types before are there.
use Rattle.mention_types.specs.Mentions.{Mentioned}
use Rattle.table_access.specs.Tables.{lines_in}
use Rattle.mention_types.proofs.mentions.Given as goal

abbrev pub invariant-loop-y : goal.invariant-loop-y
invariant-loop-y l = Mentioned (lines_in l.t) l.words l.sets l.y
