-- The numbers passed stand in their cells.
use Rattle.walk_decode.specs.DecodeLaws.{Filled}
use Rattle.walk_decode.proofs.put_front.Given as goal

abbrev pub invariant-loop-k : goal.invariant-loop-k
invariant-loop-k l = Filled l.w l.l l.c l.k
