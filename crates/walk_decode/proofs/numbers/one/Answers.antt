-- `walk_decode::numbers::one` meets its contract, by the two bytes.
use Rattle.std.proofs.Common.{arith, sym}
use Rattle.walk_decode.specs.NumberLaws.{pair_last, pair_one, pair_two, pair_first}
use Rattle.walk_decode.proofs.numbers.one.Goals as goal

pub returns-in_default : goal.returns-in_default
returns-in_default c = sym (pair_last _ _ (λ h k. omega arith))

pub returns-in_default-2 : goal.returns-in_default-2
returns-in_default-2 c = sym (pair_last _ _ (λ h k. omega arith))

pub returns-in-32 : goal.returns-in-32
returns-in-32 c = sym (pair_one _ _ c.in-32.is (omega arith) (omega arith))

pub returns-in-49-to-57 : goal.returns-in-49-to-57
returns-in-49-to-57 c = sym (pair_two _ _ (omega arith) (omega arith) (omega arith) (omega arith))

pub returns-in_default-a : goal.returns-in_default-a
returns-in_default-a c = sym (pair_first _ _ (λ h. omega arith) (λ h k. omega arith))

pub returns-in_default-a-2 : goal.returns-in_default-a-2
returns-in_default-a-2 c = sym (pair_first _ _ (λ h. omega arith) (λ h k. omega arith))
