-- A Y line as a node: how many parts its type has, and which Y lines they are. Assumes nothing.
use Rattle.std.specs.Prelude.{List, ◌≡◌, ℕ, ◌+◌, ◌≤◌, ◌<◌, eqb, leb, get_or}
use Rattle.number_columns.specs.Column.{pick, ◌⇒◌∥◌}
use Rattle.sheet.specs.Line.{Line, number}
use Rattle.model.specs.Cty.{Cty, TUnit}
use Rattle.meaning.specs.Program.{name_line, arg_line, type_line, trees}
use Rattle.meaning.specs.Rows.{count_of}
use Rattle.table_access.specs.Tables.{nth}

abbrev pub y_line : List Line → ℕ → Line
y_line ls y = nth type_line ls y

abbrev pub kind_of : List Line → ℕ → ℕ
kind_of ls y = number (y_line ls y) 0

-- the type of A line i
abbrev pub arg_of : List Line → ℕ → ℕ
arg_of ls i = number (nth arg_line ls i) 0

-- the type of Y line y
abbrev pub type_of : List Line → ℕ → Cty
type_of ls y = get_or (trees ls) y TUnit

unfoldable pub kids_of : List Line → ℕ → ℕ
kids_of ls y =
    eqb (kind_of ls y) 7 ⇒ 2 ∥
    eqb (kind_of ls y) 8 ⇒ number (y_line ls y) 3 ∥
    eqb (kind_of ls y) 9 ⇒ number (y_line ls y) 2 ∥
    leb 10 (kind_of ls y) ⇒ 1 ∥
    0

unfoldable pub kid_of : List Line → ℕ → ℕ → ℕ
kid_of ls y i =
    eqb (kind_of ls y) 7 ⇒ number (y_line ls y) (pick (eqb i 0) 1 3) ∥
    eqb (kind_of ls y) 8 ⇒ arg_of ls (number (y_line ls y) 2 + i) ∥
    eqb (kind_of ls y) 9 ⇒ arg_of ls (number (y_line ls y) 1 + i) ∥
    eqb (kind_of ls y) 11 ⇒ number (y_line ls y) 2 ∥
    number (y_line ls y) 1

-- what row 5 says of a Y line: its parts are there and stand before it
pub record Node (ls : List Line) (y : ℕ) : Type 0 where
  pub known : kind_of ls y ≤ 12
  pub lower : (i : ℕ) → i < kids_of ls y → kid_of ls y i < y
  pub listed8 : kind_of ls y ≡ 8 → number (y_line ls y) 2 + number (y_line ls y) 3 ≤ count_of arg_line ls
  pub listed9 : kind_of ls y ≡ 9 → number (y_line ls y) 1 + number (y_line ls y) 2 ≤ count_of arg_line ls
  pub named : kind_of ls y ≡ 8 → number (y_line ls y) 1 < count_of name_line ls
