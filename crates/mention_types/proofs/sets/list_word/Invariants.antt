-- The word is that of the types passed.
use Rattle.std.proofs.Common.{◌≡◌}
use Rattle.mention_types.specs.Mentions.{word_of}
use Rattle.table_access.specs.Tables.{lines_in}
use Rattle.mention_types.proofs.sets.list_word.Given as goal

abbrev pub invariant-loop-j : goal.invariant-loop-j
invariant-loop-j l = l.x ≡ word_of (lines_in l.t) l.words l.sets l.first l.w l.j
