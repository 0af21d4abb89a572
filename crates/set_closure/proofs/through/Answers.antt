-- `set_closure::through` meets its contract: after i turns the first i rows are done. Assumes nothing.
use native.Mathlib.Omega.{arith}
use Rattle.set_closure.specs.ClosureLaws.{through_pass}
use Rattle.set_closure.proofs.through.Goals as goal

pub loop-i-preserved : goal.loop-i-preserved
loop-i-preserved c =
    let s = c.loop-i in
    let a = c.args in
    let p = c.requires in
    (omega arith, through_pass a.n a.words a.k s.i a.rows.now s.rows _ p.0.wide p.0.long c.loop-i-test.true p.1 s.invariant.1 c.pass.ensures)
