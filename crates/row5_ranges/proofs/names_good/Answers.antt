-- `row5_ranges::names_good` meets its contract: every line passed is as it should be.
use Rattle.std.proofs.Common.{◌≡◌, ◌∙◌, not, ap, sym, refl, arith, eq-eqb, ne_eqb}
use Rattle.sheet.specs.Sheet.{first}
use Rattle.sheet.proofs.FirstLaws.{first_more, first_found}
use Rattle.walk_cells.specs.Cells.{lines_of}
use Rattle.meaning.specs.Rows.{row5}
use Rattle.row5_ranges.specs.RangesLaws.{row5_name, within}
use Rattle.row5_ranges.proofs.names_good.Goals as goal

pub loop-i-init : goal.loop-i-init
unfolding first
loop-i-init c = refl

pub number-requires : goal.number-requires
number-requires c =
    let a = c.args in
    (omega (arith, within a.t.now a.names a.args a.types c.requires), omega arith)

pub returns-then-number-i : goal.returns-then-number-i
returns-then-number-i c =
    let a = c.args in
    let s = lines_of a.t.now in
    let o = c.loop-i in
    sym (first_found (row5 s) a.names o.i (omega arith) o.invariant (row5_name s a.names a.args a.types c.requires o.i (omega arith) ∙ ap not (ne_eqb _ _ (λ e. c.if-number-i.true (c.number.ensures ∙ e)))))

pub loop-i-preserved : goal.loop-i-preserved
loop-i-preserved c =
    let a = c.args in
    let s = lines_of a.t.now in
    let o = c.loop-i in
    first_more (row5 s) o.i o.invariant (row5_name s a.names a.args a.types c.requires o.i (omega arith) ∙ ap not (eq-eqb _ _ (sym c.number.ensures ∙ c.if-number-i.false)))

pub returns : goal.returns
returns c =
    let e : c.loop-i.i ≡ c.args.names = omega arith in
    sym (rw e at c.loop-i.invariant)
