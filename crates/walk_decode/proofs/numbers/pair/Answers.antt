-- `walk_decode::numbers::pair` meets its contract, by the two bytes.
use Rattle.std.proofs.Common.{arith}
use Rattle.walk_decode.specs.NumberLaws.{pair_space, pair_digit}
use Rattle.walk_decode.proofs.numbers.pair.Goals as goal
use Rattle.walk_decode.proofs.numbers.pair.Goals.{in-32-1, in_default+else-a-lt49+then-a-lt58}

pub returns : goal.returns
returns c =
    let a = c.args in
    elim c.match-a.branch [
      | in-32-1 w ↦ pair_space a.a a.b w.in-32-1.keys1 (omega arith) (omega arith)
      | in_default+else-a-lt49+then-a-lt58 w ↦ pair_digit a.a a.b (omega arith) (omega arith) (omega arith) (omega arith)
    ]
