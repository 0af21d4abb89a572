-- `walk_decode::numbers::small` meets its contract: spaces before the last two or three columns change nothing.
use Rattle.std.proofs.Common.{arith, sym, ◌∙◌}
use Rattle.walk_decode.specs.NumberLaws.{read_pair, read_three}
use Rattle.walk_decode.proofs.numbers.small.Goals as goal

pub returns-then-four_spaces : goal.returns-then-four_spaces
returns-then-four_spaces c =
    let e = sym c.four_spaces.ensures ∙ c.if-four_spaces.true in
    rw (c.from.ensures, c.from-then-four_spaces.ensures, read_pair c.args.s.now 6 c.requires (omega arith) (omega arith) e e) at c.pair.ensures

pub returns-then-three_spaces : goal.returns-then-three_spaces
returns-then-three_spaces c =
    let e = sym c.three_spaces.ensures ∙ c.if-three_spaces.true in
    rw (c.from-then-three_spaces.ensures, c.from-then-three_spaces-2.ensures, c.from-then-three_spaces-3.ensures, read_three c.args.s.now c.requires e) at c.three.ensures
