-- What is known of a sheet that ends in a pattern where only its outputs are left to be tested and written: a are its declarations,
-- z its Q lines, and p the cells of the lines that follow the left declarations. Assumes nothing.
use Rattle.std.specs.Prelude.{◌≡◌, List, ◌++◌, ℕ, ◌+◌, ◌*◌, ◌/◌, ◌≤◌, length}
use Rattle.sheet.specs.Format.{base}
use Rattle.sheet.specs.Sheet.{lines}
use Rattle.walk_cells.specs.Cells.{lines_of}
use Rattle.answer.specs.Answer.{refusal}
use Rattle.answer.specs.declared.Refusal.TheVariants.{Accepted}
use Rattle.answer_patterns.specs.Whole.{input_rows, following}
use Rattle.answer_pattern_laws.specs.Parted.{Parted}
use Rattle.pattern_put.specs.Puts.{Bytes}
use Rattle.build_sheets.specs.Sheets.{Lent}

-- the bytes of the lines in cells
abbrev pub behind : List ℕ → ℕ
behind p = 32 * (length p / 6)

pub record Follows (a z t p u rank keep v : List ℕ) : Type 0 where
  pub lent : Lent a t u rank keep v 98496 1024 1024
  pub parted : Parted 6 a z
  pub input : refusal (input_rows base (a ++ z)) ≡ Accepted
  pub verdict_room : length a + length z ≤ length v
  pub lines_are : lines_of p ≡ following base (lines 6 a) (lines 6 z)
  pub bytes : Bytes p
  pub few : length p ≤ 1536
