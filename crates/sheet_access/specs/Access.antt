-- What is read of a sheet's lines, from any bytes and at any place, by the sheet's definitions.
-- Assumes nothing.
use Rattle.std.specs.Prelude.{Option, Some, None, Result, Ok, Err, List, ℕ, ltb, get_or}
use Rattle.number_columns.specs.Column.{pick}
use Rattle.sheet.specs.Line.{cell, text}
use Rattle.sheet.specs.Sheet.{count, line_at, line}
use Rattle.sheet_access.specs.declared.NoNumber.{NoNumber}
use Rattle.sheet_access.specs.declared.NoNumber.TheVariants.{Bad, Past}

-- the first byte of line i
unfoldable pub letter_at : ℕ → List ℕ → ℕ → Option ℕ
letter_at w b i = pick (ltb i (count w b)) (Some (get_or (line_at w b i) 0 0)) None

abbrev pub cell_of : Option ℕ → Result ℕ NoNumber
cell_of (Some n) = Ok n
cell_of None = Err Bad

-- number k of line i, by its columns alone
unfoldable pub cell_at : ℕ → List ℕ → ℕ → ℕ → Result ℕ NoNumber
cell_at w b i k = pick (ltb i (count w b)) (pick (ltb k 5) (cell_of (cell w (line_at w b i) k)) (Err Past)) (Err Past)

-- the text of line i: nothing where the line has none, or is past the end
unfoldable pub text_at : ℕ → List ℕ → ℕ → List ℕ
text_at w b i = text (line w b i)
