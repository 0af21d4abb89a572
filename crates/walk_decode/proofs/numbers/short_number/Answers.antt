-- `walk_decode::numbers::short_number` meets its contract: spaces before the last two columns change nothing.
use Rattle.std.proofs.Common.{length, refl, sym, ◌∙◌}
use Rattle.walk_decode.specs.NumberLaws.{read_pair}
use Rattle.walk_decode.proofs.numbers.short_number.Goals as goal

pub returns-then-four_spaces-2 : goal.returns-then-four_spaces-2
returns-then-four_spaces-2 c =
    let s = c.args.s.now in
    let e = sym c.four_spaces.ensures ∙ c.if-four_spaces.true in
    let f = sym c.four_spaces-then-four_spaces.ensures ∙ c.if-four_spaces-2.true in
    rw (c.one.ensures, c.from.ensures, c.from-then-four_spaces-2.ensures) (read_pair s (length s) refl c.requires.0 c.requires.1 e f)
