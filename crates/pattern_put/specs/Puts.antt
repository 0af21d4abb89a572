-- Lines as they stand in cells. Assumes nothing.
use Rattle.std.specs.Prelude.{List, ℕ, ◌<◌, get_or}
use Rattle.sheet.specs.Line.{Line, bad, letter}
use Rattle.walk_cells.specs.Cells.{lines_of}

abbrev pub nth_line : List ℕ → ℕ → Line
nth_line q i = get_or (lines_of q) i bad

-- every line's letter is a byte
abbrev pub Bytes : List ℕ → Type 0
Bytes q = (i : ℕ) → letter (nth_line q i) < 256
