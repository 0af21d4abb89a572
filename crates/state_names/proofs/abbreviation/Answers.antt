-- `state_names::abbreviation` meets its contract.
use Rattle.state_names.specs.CellsLaws.{cell_named, cell_unfolded}
use Rattle.state_names.proofs.abbreviation.Goals as goal

pub returns-then-stays : goal.returns-then-stays
returns-then-stays c = cell_named c.stays.result _ c.stays.ensures c.if-stays.true

pub returns-else-stays : goal.returns-else-stays
returns-else-stays c = cell_unfolded c.stays.result _ c.stays.ensures c.if-stays.false
