-- The shape of a line, where it is one: what is read of it in one pass.
-- Assumes nothing.
use Rattle.std.specs.Prelude.{Option, Some, None, ℕ, leb, length}
use Rattle.number_columns.specs.Column.{pick}
use Rattle.sheet.specs.Line.{Line, named, row, bad}
use Rattle.sheet_lines.specs.declared.Shape.{Shape}
use Rattle.sheet_lines.specs.declared.Shape.TheVariants.{Named, Row}

abbrev pub shape_of : Line → Option Shape
shape_of (named n t) = Some (Named n (length t))
shape_of (row x ns) = Some Row
shape_of bad = None

-- an N line's shape by its number and the length of its text
abbrev pub named_shape : Option ℕ → ℕ → Option Shape
named_shape (Some n) k = pick (leb 1 k) (Some (Named n k)) None
named_shape None k = None

-- the length of the text of a line of that shape, 0 of what is no line
abbrev pub text_in : Option Shape → ℕ
text_in (Some (Named n k)) = k
text_in (Some Row) = 0
text_in None = 0
