-- `row4_counting::searched` meets its contract: the counts are those of the lines passed, and none of these is past a limit.
use Rattle.std.proofs.Common.{◌≡◌, ◌∙◌, add-one, arith, length, sym}
use Rattle.sheet.specs.Format.{base}
use Rattle.sheet.proofs.FirstLaws.{first_more, first_found}
use Rattle.walk_cells.specs.Cells.{lines_of}
use Rattle.walk_cells.specs.CellsLaws.{length_lines_of}
use Rattle.meaning.specs.Rows.{row4}
use Rattle.row4_limits.specs.LimitsLaws.{tally_next, row4_next, small_next}
use Rattle.row4_counting.specs.WalkLaws.{declared_all}
use Rattle.row4_counting.proofs.searched.Goals as goal

pub headed-tally-requires : goal.headed-tally-requires
headed-tally-requires c = (c.requires.to_args, c.requires.to_types)

pub loop-i-init : goal.loop-i-init
loop-i-init c = rw c.headed-tally.ensures c.requires.counts

pub returns-then-past : goal.returns-then-past
returns-then-past c =
    let t = c.args.t.now in
    let l = c.loop-i in
    let r = c.letter-letter in
    let m = length_lines_of t in
    let test : row4 base (lines_of t) l.i ≡ c.past.result = row4_next (lines_of t) l.tally r.result l.i r.ensures l.invariant.tally base ∙ sym c.past.ensures in
    record {
      past_value = sym (first_found (row4 base (lines_of t)) (length (lines_of t)) l.i (omega (arith, m)) l.invariant.none (test ∙ c.if-past.true));
      counts_value = λ e. absurd (omega (arith, m));
    }

pub counted-tally-requires : goal.counted-tally-requires
counted-tally-requires c =
    let t = c.args.t.now in
    let l = c.loop-i in
    let r = c.letter-letter in
    small_next (lines_of t) l.tally r.result l.i r.ensures l.invariant.tally (omega (arith, length_lines_of t)) (omega arith)

pub loop-i-preserved : goal.loop-i-preserved
loop-i-preserved c =
    let t = c.args.t.now in
    let l = c.loop-i in
    let r = c.letter-letter in
    let test : row4 base (lines_of t) l.i ≡ c.past.result = row4_next (lines_of t) l.tally r.result l.i r.ensures l.invariant.tally base ∙ sym c.past.ensures in
    rw add-one
    (record {
      tally = c.counted-tally.ensures ∙ tally_next (lines_of t) l.tally r.result l.i r.ensures l.invariant.tally (omega (arith, length_lines_of t));
      none = rw add-one at (first_more (row4 base (lines_of t)) l.i l.invariant.none (test ∙ c.if-past.false));
    })

pub returns : goal.returns
returns c =
    let t = c.args.t.now in
    let l = c.loop-i in
    let e : l.i ≡ length (lines_of t) = omega (arith, c.requires.to_end, length_lines_of t) in
    record {
      past_value = omega (arith, length_lines_of t, (rw e at l.invariant.none));
      counts_value = λ h. c.declared-counts-2.ensures ∙ declared_all (lines_of t) l.i l.tally e l.invariant.tally;
    }
