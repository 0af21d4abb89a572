-- `mention_types::childsets::add_arrow` meets its contract: both children are lower.
use Rattle.std.proofs.Common.{arith}
use Rattle.mention_types.specs.Mentions.{part, mentions}
use Rattle.mention_types.specs.NamesLaws.{arrow_low}
use Rattle.mention_types.specs.AddsLaws.{kept, adds_arrow}
use Rattle.table_access.specs.Tables.{lines_in}
use Rattle.mention_types.proofs.childsets.add_arrow.Goals as goal

pub add_child-requires-clause-k_bound : goal.add_child-requires-clause-k_bound
add_child-requires-clause-k_bound c = let y = c.requires.y_bound in (arrow_low _ c.requires.tabled.passed _ y.0 y.1).0

pub add_child-requires-2-clause-mentioned : goal.add_child-requires-2-clause-mentioned
add_child-requires-2-clause-mentioned c =
    let a = c.args in
    let ls = lines_in a.t.now in
    kept ls a.words a.sets.now _ a.y (mentions ls (part ls a.y 1)) c.requires.mentioned c.add_child.ensures

pub add_child-requires-2-clause-k_bound : goal.add_child-requires-2-clause-k_bound
add_child-requires-2-clause-k_bound c =
    let y = c.requires.y_bound in
    let low = arrow_low _ c.requires.tabled.passed _ y.0 y.1 in
    omega (arith, low.0, low.1)

pub returns : goal.returns
returns c =
    let y = c.requires.y_bound in
    adds_arrow _ c.requires.tabled.passed _ _ _ c.requires.mentioned y.0 y.1 _ _ c.add_child.ensures c.add_child-2.ensures
