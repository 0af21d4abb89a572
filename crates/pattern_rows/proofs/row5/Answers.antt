-- `pattern_rows::row5` meets its contract. Assumes nothing.
use Rattle.std.proofs.Common.{◌≡◌, refl, sym, ap, ◌∙◌, not, arith, length}
use Rattle.sheet.specs.Sheet.{first}
use Rattle.sheet.proofs.FirstLaws.{first_more, first_found}
use Rattle.walk_cells.specs.Cells.{lines_of}
use Rattle.walk_cells.specs.CellsLaws.{length_lines_of}
use Rattle.meaning.specs.Rows.{nth_line}
use Rattle.pattern_rows.specs.Links.{row5, Lower}
use Rattle.pattern_rows.specs.LinksLaws.{marked_none, marked_more, good_lower}
use Rattle.pattern_rows.proofs.row5.Goals as goal

pub loop-i-init : goal.loop-i-init
unfolding first
loop-i-init c = record { none = refl; marked = marked_none (lines_of c.args.q.now) }

pub good_line-requires : goal.good_line-requires
good_line-requires c = record { i_in_bounds = (omega arith, omega arith); marked = c.loop-i.invariant.marked }

pub returns-then-not-good_line : goal.returns-then-not-good_line
returns-then-not-good_line c =
    let a = c.args in
    let qs = lines_of a.q.now in
    let o = c.loop-i in
    sym (first_found (row5 a.names qs) (length qs) o.i (omega (arith, length_lines_of a.q.now)) o.invariant.none (ap not (sym c.good_line.ensures ∙ c.if-not-good_line.true)))

pub bounds-linked-last : goal.bounds-linked-last
bounds-linked-last c =
    let low : Lower (nth_line (lines_of c.args.q.now) c.loop-i.i) c.loop-i.i = good_lower c.args.names (lines_of c.args.q.now) c.loop-i.i (sym c.good_line.ensures ∙ c.if-not-good_line.false) in
    omega (arith, low.last_lower, c.number-last.ensures)

pub bounds-linked-previous : goal.bounds-linked-previous
bounds-linked-previous c =
    let low : Lower (nth_line (lines_of c.args.q.now) c.loop-i.i) c.loop-i.i = good_lower c.args.names (lines_of c.args.q.now) c.loop-i.i (sym c.good_line.ensures ∙ c.if-not-good_line.false) in
    omega (arith, low.previous_lower, c.number-previous.ensures)

pub loop-i-preserved : goal.loop-i-preserved
loop-i-preserved c =
    let a = c.args in
    let qs = lines_of a.q.now in
    let o = c.loop-i in
    let low : Lower (nth_line qs o.i) o.i = good_lower a.names qs o.i (sym c.good_line.ensures ∙ c.if-not-good_line.false) in
    record {
      none = first_more (row5 a.names qs) o.i o.invariant.none (ap not (sym c.good_line.ensures ∙ c.if-not-good_line.false));
      marked = marked_more qs o.i o.linked c.number-last.result c.number-previous.result c.number-last.ensures c.number-previous.ensures (omega (arith, low.last_lower, c.number-last.ensures)) (omega (arith, low.previous_lower, c.number-previous.ensures)) o.invariant.marked;
    }

pub returns : goal.returns
returns c =
    let q = c.args.q.now in
    let e : c.loop-i.i ≡ length (lines_of q) = omega (arith, length_lines_of q) in
    omega (arith, length_lines_of q, (rw e at c.loop-i.invariant.none))
