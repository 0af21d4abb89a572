-- A sheet's bytes in two parts: declarations, and behind them lines from the first Q line on. Assumes nothing.
use Rattle.std.specs.Prelude.{◌≡◌, List, ℕ}
use Rattle.sheet.specs.Line.{is_bad}
use Rattle.sheet.specs.Sheet.{count, line}
use Rattle.answer.specs.Answer.{Clear}
use Rattle.answer.specs.Cut.{Whole}
use Rattle.answer_pattern_laws.specs.Parts.{NoPattern, Begins}

-- z may be empty, and none of its lines is bad
pub record Parted (w : ℕ) (a z : List ℕ) : Type 0 where
  pub front_whole : Whole w a
  pub plain : NoPattern w a
  pub tail_whole : Whole w z
  pub begins : Begins w z
  pub no_bad : Clear (count w z) (λ i. is_bad (line w z i))
