-- `mention_types::childsets::add_tuple` meets its contract: its parts are lower.
use Rattle.mention_types.specs.NamesLaws.{tuple_low}
use Rattle.mention_types.specs.AddsLaws.{adds_tuple}
use Rattle.mention_types.proofs.childsets.add_tuple.Goals as goal

pub add_list-requires-clause-lower : goal.add_list-requires-clause-lower
add_list-requires-clause-lower c =
    let y = c.requires.y_bound in
    rw (c.type_number-first.ensures, c.type_number-count.ensures) (tuple_low _ c.requires.tabled.passed _ y.0 y.1)

pub returns : goal.returns
returns c =
    let y = c.requires.y_bound in
    adds_tuple _ c.requires.tabled.passed _ _ _ c.requires.mentioned y.0 y.1 _ (rw (c.type_number-first.ensures, c.type_number-count.ensures) at c.add_list.ensures)
