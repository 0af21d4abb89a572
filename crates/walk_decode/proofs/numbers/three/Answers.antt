-- `walk_decode::numbers::three` meets its contract, by the three bytes.
use Rattle.std.proofs.Common.{arith}
use Rattle.walk_decode.specs.NumberLaws.{three_digits}
use Rattle.walk_decode.proofs.numbers.three.Goals as goal

pub returns : goal.returns
returns c = three_digits _ _ _ (omega arith) (omega arith) (omega arith) (omega arith) (omega arith) (omega arith)
