-- `walk_decode::numbers::number` meets its contract: spaces before the last six columns change nothing.
use Rattle.std.proofs.Common.{◌≡◌, ℕ, ◌-◌, ◌<◌, length, get_or, arith, sym, ◌∙◌}
use Rattle.walk_decode.specs.NumberLaws.{read_six, four_front}
use Rattle.walk_decode.proofs.numbers.number.Goals as goal
use Rattle.walk_decode.proofs.numbers.number.Goals.{else-n-gt6-via-then-n-gt6+else-not-four_spaces, else-n-gt6-via-else-n-gt6}

pub returns : goal.returns
returns c =
    let s = c.args.s.now in
    let f : (j : ℕ) → j < length s - 6 → get_or s j 0 ≡ 32 = elim c.else-n-gt6.branch [
      | else-n-gt6-via-then-n-gt6+else-not-four_spaces w ↦ four_front s c.requires.1 (sym w.four_spaces.ensures ∙ w.if-not-four_spaces.false)
      | else-n-gt6-via-else-n-gt6 w ↦ λ j h. absurd (omega (arith, w.if-n-gt6.false))
    ] in
    c.six.ensures ∙ read_six s c.requires.0 f
