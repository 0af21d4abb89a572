-- `pattern_lines::good_links` meets its contract: the marks say what is named. Assumes nothing.
use Rattle.walk_cells.specs.Cells.{lines_of}
use Rattle.pattern_rows.specs.LinksLaws.{link_free}
use Rattle.pattern_rows.proofs.pattern_lines.good_links.Goals as goal

pub returns : goal.returns
returns c =
    let free = link_free (lines_of c.args.q.now) c.args.i c.args.linked.now c.requires.marked c.requires.i_in_bounds.1 in
    rw (c.good_link-2.ensures, c.good_link.ensures, free c.number-last.result, free c.number-previous.result, ← c.number-last.ensures, ← c.number-previous.ensures)
