-- What is promised of decoding lines into cells. Assumes nothing.
use Rattle.std.specs.Prelude.{◌≡◌, Option, Some, None, List, ◌++◌, Bool, true, not, ℕ, ◌*◌, set, drop}
use Rattle.sheet.specs.Line.{Line, is_bad}
use Rattle.sheet.specs.Sheet.{count, lines, row2}
use Rattle.walk_cells.specs.Cells.{line_cells, cells}

-- cell k set to the number, where there is one
abbrev pub stored : Option ℕ → List ℕ → ℕ → List ℕ
stored (Some n) c k = set c k n
stored None c k = c

-- one line: whether it is one, and its cells then
pub record Put (l : Line) (r : Bool) (c : List ℕ) : Type 0 where
  pub told : is_bad l ≡ not r
  pub holds : r ≡ true → c ≡ line_cells l

-- Row 2's answer r, and where it passed, the cells of all lines; the cells past them are as they were.
pub record Decoded (w : ℕ) (b t₀ : List ℕ) (r : ℕ) (t : List ℕ) : Type 0 where
  pub place : r ≡ row2 w b
  pub holds : r ≡ count w b → t ≡ cells (lines w b) ++ drop (6 * count w b) t₀
