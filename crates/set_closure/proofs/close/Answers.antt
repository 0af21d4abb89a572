-- `set_closure::close` meets its contract: after k turns the rows have what is reached by way of nodes below k. Assumes nothing.
use mathlib.Core.Path.{◌≡◌}
use native.Mathlib.Omega.{arith}
use Rattle.set_closure.specs.ClosureLaws.{closed_none, closed_more, closed_all}
use Rattle.set_closure.proofs.close.Goals as goal

pub loop-k-init : goal.loop-k-init
loop-k-init c = (omega arith, closed_none c.args.n c.args.words c.args.rows.now c.requires)

pub loop-k-preserved : goal.loop-k-preserved
loop-k-preserved c =
    let s = c.loop-k in
    let a = c.args in
    let p = c.requires in
    (omega arith, closed_more a.n a.words s.k a.rows.now s.rows _ p.wide c.loop-k-test.true s.invariant.1 c.through.ensures)

pub returns : goal.returns
returns c =
    let s = c.loop-k in
    let a = c.args in
    let e : s.k ≡ a.n = omega arith in
    closed_all a.n a.words a.rows.now s.rows (rw e at s.invariant.1)
