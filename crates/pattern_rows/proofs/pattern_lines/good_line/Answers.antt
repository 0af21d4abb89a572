-- `pattern_lines::good_line` meets its contract: where the links pass, they are to lower lines. Assumes nothing.
use Rattle.std.proofs.Common.{sym, ◌∙◌}
use Rattle.walk_cells.specs.Cells.{lines_of}
use Rattle.pattern_rows.specs.LinksLaws.{good_by, links_lower}
use Rattle.pattern_rows.proofs.pattern_lines.good_line.Goals as goal

pub returns-then-not-good_links : goal.returns-then-not-good_links
returns-then-not-good_links c =
    let a = c.args in
    rw (good_by a.names (lines_of a.q.now) a.i, ← c.good_links.ensures, c.if-not-good_links.true)

pub good_parts-requires : goal.good_parts-requires
good_parts-requires c =
    (c.requires.i_in_bounds.0, links_lower (lines_of c.args.q.now) c.args.i (sym c.good_links.ensures ∙ c.if-not-good_links.false))

pub returns : goal.returns
returns c =
    let a = c.args in
    rw (good_by a.names (lines_of a.q.now) a.i, ← c.good_links.ensures, c.if-not-good_links.false, c.good_parts.ensures, c.good_own.ensures)
