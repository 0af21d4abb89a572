-- `walk_decode::numbers::any_number` meets its contract, by what stands behind the spaces.
use Rattle.std.proofs.Common.{arith, sym}
use borrow.Author.Rules.{part_to_end}
use Rattle.walk_decode.specs.NumberLaws.{front_all, front_zero, front_zeros, front_digits}
use Rattle.walk_decode.proofs.numbers.any_number.Goals as goal

pub returns-then-i-n : goal.returns-then-i-n
returns-then-i-n c = sym (front_all _ _ c.front-i.ensures c.if-i-n.true)

pub returns-then-i-n-2 : goal.returns-then-i-n-2
returns-then-i-n-2 c = sym (front_zero _ _ c.front-i.ensures c.if-i-n-2.true c.if-s-i-eq48.true)

pub returns-then-s-i-eq48 : goal.returns-then-s-i-eq48
returns-then-s-i-eq48 c = sym (front_zeros _ _ c.front-i.ensures (omega arith) c.if-i-n-2.false c.if-s-i-eq48.true)

pub returns : goal.returns
returns c =
    let s = c.args.s.now in
    let i = c.front-i.result in
    rw (c.digits.ensures, part_to_end s i) (front_digits s i c.front-i.ensures (omega arith) c.if-s-i-eq48.false)
