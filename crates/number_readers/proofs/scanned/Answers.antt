-- `number_readers::scanned` meets its contract: each column passed is one step more.
use Rattle.std.proofs.Common.{arith, refl, length-take}
use Rattle.number_columns.specs.Column.{scan}
use Rattle.number_columns.specs.ColumnLaws.{scan_take, scan_below}
use Rattle.number_readers.proofs.scanned.Goals as goal

pub loop-b-init : goal.loop-b-init
unfolding scan
loop-b-init c = refl

pub step-st-requires : goal.step-st-requires
step-st-requires c = rw c.loop-b.invariant (scan_below 8 _ (simp length-take (omega arith)))

pub loop-b-preserved : goal.loop-b-preserved
loop-b-preserved c = rw (scan_take c.args.s.now c.loop-b.b-index (omega arith), c.step-st.ensures, c.loop-b.invariant)
