-- A number stands for a width exactly if it is one of theirs.
use Rattle.meaning_laws.specs.Widths.{is_width_known}
use Rattle.row5_widths.proofs.is_width.Goals as goal

pub returns : goal.returns
returns c = rw (is_width_known c.args.n, ← c.iwidth_of.ensures) c.is_some.ensures
