-- `mention_types::childsets::add_app` meets its contract: the name, and then the arguments.
use Rattle.mention_types.specs.NamesLaws.{app_name, app_low}
use Rattle.mention_types.specs.AddsLaws.{adds_app}
use Rattle.mention_types.proofs.childsets.add_app.Goals as goal

pub add_name-requires-clause-n_bound : goal.add_name-requires-clause-n_bound
add_name-requires-clause-n_bound c =
    let y = c.requires.y_bound in
    rw c.type_number-name.ensures (app_name _ c.requires.tabled.passed _ y.0 y.1)

pub add_list-requires-clause-lower : goal.add_list-requires-clause-lower
add_list-requires-clause-lower c =
    let y = c.requires.y_bound in
    rw (c.type_number-first.ensures, c.type_number-k.ensures) (app_low _ c.requires.tabled.passed _ y.0 y.1)

pub returns : goal.returns
returns c =
    let y = c.requires.y_bound in
    adds_app _ c.requires.tabled.passed _ _ _ c.requires.mentioned y.0 y.1 _ _ (rw c.type_number-name.ensures at c.add_name.ensures) (rw (c.type_number-first.ensures, c.type_number-k.ensures) at c.add_list.ensures)
