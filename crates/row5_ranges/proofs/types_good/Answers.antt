-- `row5_ranges::types_good` meets its contract: every line passed is as it should be.
use Rattle.std.proofs.Common.{◌≡◌, ◌∙◌, ◌+◌, not, ap, sym, arith}
use Rattle.sheet.proofs.FirstLaws.{first_more, first_found}
use Rattle.walk_cells.specs.Cells.{lines_of}
use Rattle.meaning.specs.Rows.{row5}
use Rattle.row5_ranges.specs.RangesLaws.{within, row5_type}
use Rattle.row5_ranges.proofs.types_good.Goals as goal

pub overflow_add-from : goal.overflow_add-from
overflow_add-from c = let a = c.args in omega (arith, within a.t.now a.names a.args a.types c.requires.counted)

pub overflow_add-end : goal.overflow_add-end
overflow_add-end c = let a = c.args in omega (arith, within a.t.now a.names a.args a.types c.requires.counted)

pub good_type-requires : goal.good_type-requires
good_type-requires c =
    let a = c.args in
    record { counted = c.requires.counted; i_in_bounds = omega (arith, within a.t.now a.names a.args a.types c.requires.counted) }

pub returns-then-not-good_type : goal.returns-then-not-good_type
returns-then-not-good_type c =
    let a = c.args in
    let s = lines_of a.t.now in
    let o = c.loop-i in
    sym (first_found (row5 s) (a.names + a.args + a.types) o.i (omega arith) o.invariant (row5_type s a.names a.args a.types c.requires.counted o.i (omega arith) (omega arith) ∙ ap not (sym c.good_type.ensures ∙ c.if-not-good_type.true)))

pub loop-i-preserved : goal.loop-i-preserved
loop-i-preserved c =
    let a = c.args in
    let s = lines_of a.t.now in
    let o = c.loop-i in
    first_more (row5 s) o.i o.invariant (row5_type s a.names a.args a.types c.requires.counted o.i (omega arith) (omega arith) ∙ ap not (sym c.good_type.ensures ∙ c.if-not-good_type.false))

pub returns : goal.returns
returns c =
    let e : c.loop-i.i ≡ c.args.names + c.args.args + c.args.types = omega arith in
    sym (rw e at c.loop-i.invariant)
