-- The types that Y lines may use. Assumes nothing.
use Rattle.std.specs.Prelude.{List, map, ℕ}
use Rattle.sheet.specs.Line.{Line, number}
use Rattle.meaning.specs.Program.{arg_line, select}

-- the types of the A lines
abbrev pub types_of : List Line → List ℕ
types_of ls = map (λ a. number a 0) (select arg_line ls)
