-- `table_access::field_number` meets its contract: the index has the line's place. Assumes nothing.
use mathlib.Core.Path.{◌∙◌}
use Rattle.table_access.specs.Tables.{lines_in}
use Rattle.table_access.specs.CellsLaws.{read_field}
use Rattle.table_access.proofs.field_number.Goals as goal

pub placed-requires : goal.placed-requires
placed-requires c = let a = c in (read_field (lines_in a.args.t.now) a.args.t.now a.requires.tabled a.args.f a.args.k a.requires.f_bound.0 a.requires.f_bound.1).within

pub returns : goal.returns
returns c = let a = c in c.placed.ensures ∙ (read_field (lines_in a.args.t.now) a.args.t.now a.requires.tabled a.args.f a.args.k a.requires.f_bound.0 a.requires.f_bound.1).value
