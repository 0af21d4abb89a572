-- `row5_ranges::unused::zeros_from` meets its contract: no number passed is stray.
use Rattle.std.proofs.Common.{◌∙◌, sym, arith}
use Rattle.walk_cells.specs.Cells.{lines_of}
use Rattle.meaning.specs.Rows.{nth_line}
use Rattle.row5_ranges.specs.UnusedLaws.{zeros_start, zeros_more, zeros_found, zeros_all}
use Rattle.row5_ranges.proofs.unused.zeros_from.Goals as goal

pub loop-j-init : goal.loop-j-init
loop-j-init c = zeros_start c.args.k (nth_line (lines_of c.args.t.now) c.args.i)

pub returns-then-number-ne0 : goal.returns-then-number-ne0
returns-then-number-ne0 c =
    let a = c.args in
    sym (zeros_found a.k (nth_line (lines_of a.t.now) a.i) c.loop-j.j (omega arith) (omega arith) (λ e. c.if-number-ne0.true (c.number.ensures ∙ e)))

pub loop-j-preserved : goal.loop-j-preserved
loop-j-preserved c =
    let a = c.args in
    zeros_more a.k (nth_line (lines_of a.t.now) a.i) c.loop-j.j (omega arith) (sym c.number.ensures ∙ c.if-number-ne0.false) c.loop-j.invariant

pub returns : goal.returns
returns c =
    let a = c.args in
    sym (zeros_all a.k (nth_line (lines_of a.t.now) a.i) c.loop-j.j (omega arith) c.loop-j.invariant)
