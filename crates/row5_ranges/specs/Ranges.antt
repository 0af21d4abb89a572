-- An A line of row 5. Assumes nothing.
use Rattle.std.specs.Prelude.{Bool, ◌&&◌, ℕ, ltb}
use Rattle.sheet.specs.Line.{Line, number}
use Rattle.meaning.specs.Rows.{zeros_from}

abbrev pub good_arg : ℕ → Line → Bool
good_arg types l = ltb (number l 0) types && zeros_from 1 l
