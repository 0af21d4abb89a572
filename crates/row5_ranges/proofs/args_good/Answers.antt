-- `row5_ranges::args_good` meets its contract: every line passed is as it should be.
use Rattle.std.proofs.Common.{◌≡◌, ◌∙◌, ◌+◌, not, ap, sym, arith}
use Rattle.sheet.proofs.FirstLaws.{first_more, first_found}
use Rattle.walk_cells.specs.Cells.{lines_of}
use Rattle.meaning.specs.Rows.{row5}
use Rattle.row5_ranges.specs.RangesLaws.{within, row5_arg}
use Rattle.row5_ranges.proofs.args_good.Goals as goal

pub overflow_add-end : goal.overflow_add-end
overflow_add-end c = let a = c.args in omega (arith, within a.t.now a.names a.args a.types c.requires.counted)

pub good_arg-requires : goal.good_arg-requires
good_arg-requires c = let a = c.args in omega (arith, within a.t.now a.names a.args a.types c.requires.counted)

pub returns-then-not-good_arg : goal.returns-then-not-good_arg
returns-then-not-good_arg c =
    let a = c.args in
    let s = lines_of a.t.now in
    let o = c.loop-i in
    sym (first_found (row5 s) (a.names + a.args) o.i (omega arith) o.invariant (row5_arg s a.names a.args a.types c.requires.counted o.i (omega arith) (omega arith) ∙ ap not (sym c.good_arg.ensures ∙ c.if-not-good_arg.true)))

pub loop-i-preserved : goal.loop-i-preserved
loop-i-preserved c =
    let a = c.args in
    let s = lines_of a.t.now in
    let o = c.loop-i in
    first_more (row5 s) o.i o.invariant (row5_arg s a.names a.args a.types c.requires.counted o.i (omega arith) (omega arith) ∙ ap not (sym c.good_arg.ensures ∙ c.if-not-good_arg.false))

pub returns : goal.returns
returns c =
    let e : c.loop-i.i ≡ c.args.names + c.args.args = omega arith in
    sym (rw e at c.loop-i.invariant)
