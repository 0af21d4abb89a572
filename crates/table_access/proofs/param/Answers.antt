-- `table_access::param` meets its contract: the index has the P line's place. Assumes nothing.
use mathlib.Core.Path.{◌∙◌}
use borrow.Author.Rules.{rules}
use Rattle.table_access.specs.Tables.{lines_in}
use Rattle.table_access.specs.CellsLaws.{read_param}
use Rattle.table_access.proofs.param.Goals as goal

pub placed-requires : goal.placed-requires
placed-requires c = let a = c in (read_param (lines_in a.args.t.now) a.args.t.now a.requires.tabled a.args.p a.requires.p_bound).within

pub returns : goal.returns
returns c = let a = c in c.placed.ensures ∙ (read_param (lines_in a.args.t.now) a.args.t.now a.requires.tabled a.args.p a.requires.p_bound).value
