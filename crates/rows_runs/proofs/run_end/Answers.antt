-- `rows_runs::run_end` meets its contract: the lines passed have the letter.
use Rattle.std.proofs.Common.{◌≡◌, ◌/◌, arith, length, sym}
use Rattle.sheet.proofs.FirstLaws.{first_more, first_found}
use Rattle.walk_cells.specs.CellsLaws.{length_lines_of}
use Rattle.rows_runs.specs.Runs.{run_end}
use Rattle.rows_runs.specs.RunsLaws.{run_begin, run_stays, run_stops}
use Rattle.rows_runs.proofs.run_end.Goals as goal

pub loop-i-init : goal.loop-i-init
loop-i-init c = run_begin _ _ _

pub returns-then-letter : goal.returns-then-letter
unfolding run_end
returns-then-letter c =
    sym (first_found _ _ _ (omega (arith, length_lines_of c.args.t.now)) c.loop-i.invariant (run_stops _ _ _ _ _ (omega arith) c.letter.ensures c.if-letter.true))

pub loop-i-preserved : goal.loop-i-preserved
loop-i-preserved c = first_more _ _ c.loop-i.invariant (run_stays _ _ _ _ _ (omega arith) c.letter.ensures c.if-letter.false)

pub returns : goal.returns
unfolding run_end
returns c =
    let e : c.loop-i.i ≡ length c.args.t.now / 6 = omega (arith, c.requires, length_lines_of c.args.t.now) in
    sym (rw (length_lines_of c.args.t.now) (rw e at c.loop-i.invariant))
