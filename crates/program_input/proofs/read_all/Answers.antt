use Rattle.std.proofs.Common.{arith}
use Rattle.program_input.proofs.Joined.{joined, held}
use Rattle.program_input.proofs.read_all.Goals as goal
use Rattle.program_input.proofs.read_all.Goals.{in-Ok, in-Err}

pub loop-preserved : goal.loop-preserved
loop-preserved g c =
    let so_far = c.loop.invariant in
    elim c.match-read.branch [
      | in-Ok w ↦ (omega (arith, w.in-Ok.ensures.bound.0), rw w.at-is (joined _ _ _ _ _ _ _ _ so_far.0 w.in-Ok.ensures.bound.0 so_far.1 w.in-Ok.ensures.bytes.0))
      | in-Err w ↦ (omega arith, rw w.at-is (held _ _ _ _ _ _ so_far.0 so_far.1 w.in-Err.ensures.bytes))
    ]
