-- What is known of the lines of a sheet to which none of rows 1 to 7 applies, by letters and numbers alone. Assumes nothing.
use Rattle.std.specs.Prelude.{◌≡◌, List, false, ℕ, suc, ◌^◌, ◌≤◌, ◌<◌, length}
use Rattle.sheet.specs.Format.{Format, largest}
use Rattle.sheet.specs.Line.{Line, number}
use Rattle.sheet.specs.Sheet.{first}
use Rattle.meaning.specs.Rows.{nth_line, row3, row4, row5, row7}
use Rattle.meaning_bares.specs.RowLaws.{repeats_number}

-- Lines within the limits of a format. The owner of an array asks for those of its own format.
pub record Bounded (f : Format) (ls : List Line) : Type 0 where
  pub few : length ls ≤ f.lines
  pub small : (i k : ℕ) → number (nth_line ls i) k < 10 ^ f.columns
  pub in_limits : first (row4 f ls) (length ls) ≡ length ls

-- All that a pass may know of limits is those of the largest format. Of row 6 there is what goes by numbers.
pub record Passed (ls : List Line) : Type 0 where
  pub bounded : Bounded largest ls
  pub in_order : first (row3 ls) (suc (length ls)) ≡ suc (length ls)
  pub in_range : first (row5 ls) (length ls) ≡ length ls
  pub distinct : (i j : ℕ) → i < length ls → j < i → repeats_number ls i j ≡ false
  pub in_verdict : first (row7 ls) (length ls) ≡ length ls
