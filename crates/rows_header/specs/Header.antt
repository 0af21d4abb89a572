-- The lines before the declarations: how many there are of each letter, and where the declarations begin. Assumes nothing.
use Rattle.std.specs.Prelude.{◌≡◌, List, ◌⊎◌, ℕ, suc, ◌+◌, ◌≤◌, length}
use Rattle.sheet.specs.Line.{Line, letter}
use Rattle.sheet.specs.Sheet.{first}
use Rattle.meaning.specs.Program.{name_line, arg_line, type_line}
use Rattle.meaning.specs.Rows.{count_of, row3}

-- The lines are in order, and have so many N, A and Y lines.
pub record Counted (ls : List Line) (names args types : ℕ) : Type 0 where
  pub in_order : first (row3 ls) (suc (length ls)) ≡ suc (length ls)
  pub names_are : names ≡ count_of name_line ls
  pub args_are : args ≡ count_of arg_line ls
  pub types_are : types ≡ count_of type_line ls

-- the N, A and Y lines
abbrev pub header : List Line → ℕ
header ls = count_of name_line ls + count_of arg_line ls + count_of type_line ls

-- The lines are in order, and the declarations begin at line `from`.
pub record Headed (ls : List Line) (from : ℕ) : Type 0 where
  pub in_order : first (row3 ls) (suc (length ls)) ≡ suc (length ls)
  pub from_is : from ≡ header ls

-- A line of a declaration: up to the letter F, one that begins no local declaration is a C or an F line.
pub record Lettered (l : Line) : Type 0 where
  pub member : letter l ≤ 70 → (letter l ≡ 68 → ⊥) → (letter l ≡ 67) ⊎ (letter l ≡ 70)
