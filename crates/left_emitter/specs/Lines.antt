-- The A and the Y lines of one node. Assumes nothing.
use Rattle.std.specs.Prelude.{List, [], ◌∷◌, Bool, ◌||◌, ℕ, eqb}
use Rattle.number_columns.specs.Column.{pick}
use Rattle.sheet.specs.Line.{Line, row}
use Rattle.meaning.specs.Program.{arg_line}
use Rattle.form_laws.specs.Nodes.{Node, y_first, y_second, y_third}

-- the numbers of a Y line
unfoldable pub y_row : Node → List ℕ → ℕ → List ℕ
y_row x ns a = x.kind ∷ y_first x ns a ∷ y_second x ns a ∷ y_third x ns ∷ 0 ∷ []

-- the A line of a child
abbrev pub arg_row : ℕ → Line
arg_row n = row arg_line (n ∷ 0 ∷ 0 ∷ 0 ∷ 0 ∷ [])

-- a `TApp` and a tuple have an A line for each child
unfoldable pub has_list : Node → Bool
has_list x = eqb x.kind 8 || eqb x.kind 9

unfoldable pub listed : Node → List ℕ → List ℕ
listed x ns = pick (has_list x) ns []
