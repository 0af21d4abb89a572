-- What is claimed of the answer to a sheet that may end in a pattern: that no row applies. Assumes nothing.
use Rattle.std.specs.Prelude.{◌≡◌, List, false, not, ℕ, suc, ◌≤◌, length}
use Rattle.sheet.specs.Format.{Format}
use Rattle.sheet.specs.Line.{is_bad}
use Rattle.sheet.specs.Sheet.{count, line, lines, row1}
use Rattle.meaning.specs.Program.{is, name_line, program}
use Rattle.meaning.specs.Rows.{count_of, raw, raws, row3, row4, row5, row6, row7}
use Rattle.meaning_patterns.specs.Patterns.{pattern_line, good_pattern, row13}
use Rattle.answer.specs.Answer.{Clear, row8, row9_10}
use Rattle.answer_patterns.specs.Whole.{front, tail, left_sheet}

-- no row applies: the names with `patterns` are those of the tail's lines
pub record Passes (f : Format) (b : List ℕ) (v l : ℕ) : Type 0 where
  pub pass1 : row1 f b ≡ false
  pub pass2 : Clear (count f.columns b) (λ i. is_bad (line f.columns b i))
  pub pass3 : Clear (suc (count f.columns (front f.columns b))) (row3 (raws f.columns (front f.columns b)))
  pub patterns3 : Clear (count f.columns (tail f.columns b)) (λ q. not (is pattern_line (raw f.columns (tail f.columns b) q)))
  pub pass4 : Clear (count f.columns (front f.columns b)) (row4 f (lines f.columns (front f.columns b)))
  pub patterns4 : count f.columns (tail f.columns b) ≤ f.patterns
  pub pass5 : Clear (count f.columns (front f.columns b)) (row5 (lines f.columns (front f.columns b)))
  pub patterns5 :
      Clear (count f.columns (tail f.columns b)) (λ q. not (good_pattern (count_of name_line (lines f.columns (front f.columns b))) (lines f.columns (tail f.columns b)) q))
  pub pass6 : Clear (count f.columns (front f.columns b)) (row6 (lines f.columns (front f.columns b)))
  pub pass7 : Clear (count f.columns (front f.columns b)) (row7 (lines f.columns (front f.columns b)))
  pub pass8 : Clear (count f.columns (front f.columns b)) (row8 (program (lines f.columns (front f.columns b))) (lines f.columns (front f.columns b)))
  pub pass9_10 : Clear (count f.columns (front f.columns b)) (row9_10 f (program (lines f.columns (front f.columns b))) (lines f.columns (front f.columns b)))
  pub pass13 : Clear (count f.columns (tail f.columns b)) (row13 (program (lines f.columns (front f.columns b))) (lines f.columns (tail f.columns b)))
  pub pass11 : length b ≤ v
  pub pass12 : length (left_sheet f (lines f.columns (front f.columns b)) (lines f.columns (tail f.columns b))) ≤ l
