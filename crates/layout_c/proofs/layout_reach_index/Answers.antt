-- The two numbers are code and place of the refusal, and the words are those of the reach index.
use Rattle.std.proofs.Common.{rules}
use Rattle.layout_c.specs.Index.{told_index}
use Rattle.layout_c.proofs.layout_reach_index.Goals as goal

pub returns : goal.returns
returns c = told_index _ _ _ _ c.reach_index-r.ensures _ _ _ (search rules) (search rules)
