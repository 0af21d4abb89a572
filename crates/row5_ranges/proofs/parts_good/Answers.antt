-- `row5_ranges::parts_good` meets its contract: every line passed is as it should be.
use Rattle.std.proofs.Common.{◌≡◌, ◌∙◌, not, ap, sym, arith, length}
use Rattle.sheet.proofs.FirstLaws.{first_more, first_found}
use Rattle.walk_cells.specs.Cells.{lines_of}
use Rattle.walk_cells.specs.CellsLaws.{length_lines_of}
use Rattle.meaning.specs.Rows.{row5}
use Rattle.row5_ranges.specs.RangesLaws.{within}
use Rattle.row5_ranges.proofs.parts_good.Goals as goal

pub overflow_add-i : goal.overflow_add-i
overflow_add-i c = let a = c.args in omega (arith, within a.t.now a.names a.args a.types c.requires.counted)

pub overflow_step-i : goal.overflow_step-i
overflow_step-i c = let a = c.args in omega (arith, within a.t.now a.names a.args a.types c.requires.counted)

pub returns-then-not-good_part : goal.returns-then-not-good_part
unfolding row5
returns-then-not-good_part c =
    let s = lines_of c.args.t.now in
    let o = c.loop-i in
    sym (first_found (row5 s) (length s) o.i (omega (arith, length_lines_of c.args.t.now)) o.invariant (ap not (sym c.good_part.ensures ∙ c.if-not-good_part.true)))

pub loop-i-preserved : goal.loop-i-preserved
unfolding row5
loop-i-preserved c = first_more (row5 (lines_of c.args.t.now)) c.loop-i.i c.loop-i.invariant (ap not (sym c.good_part.ensures ∙ c.if-not-good_part.false))

pub returns : goal.returns
returns c =
    let a = c.args in
    let s = lines_of a.t.now in
    let e : c.loop-i.i ≡ length s = omega (arith, length_lines_of a.t.now, within a.t.now a.names a.args a.types c.requires.counted) in
    omega (arith, length_lines_of a.t.now, (rw e at c.loop-i.invariant))
