-- The lines around the body of a declaration that is left, by its own lines. Assumes nothing.
use Rattle.std.specs.Prelude.{List, [], ◌∷◌, map, ℕ, length}
use Rattle.sheet.specs.Line.{Line, row, number}
use Rattle.model.specs.Decl.{Body, Dtype}
use Rattle.meaning.specs.Program.{local_line, param_line, verdict_line}
use Rattle.meaning.specs.Output.{last}
use Rattle.table_access.specs.Tables.{head_line}
use Rattle.resolve_kids.specs.Params.{params_of}
use Rattle.left_places.specs.Places.{Writing, none, one, seq}

-- lines that use no type
abbrev pub fixed : List Line → Writing
fixed ms w = record { written = w; lines = ms }

-- what has the number of the type that was written last
abbrev pub by_last : (ℕ → Writing) → Writing
by_last f w = f (last w) w

-- declaration d with another body
abbrev pub decl_with : List Line → ℕ → Body → Dtype
decl_with ls d b = record { dt_name = number (head_line ls d) 0; dt_flags = number (head_line ls d) 1; dt_params = params_of ls d; dt_body = b }

-- a P line, and the V line
abbrev pub param_row : ℕ → Line
param_row x = row param_line (x ∷ 0 ∷ 0 ∷ 0 ∷ 0 ∷ [])

abbrev pub verdict_row : Line
verdict_row = row verdict_line (0 ∷ 0 ∷ 0 ∷ 0 ∷ 0 ∷ [])

-- the D line of declaration d with a body of this kind and last number, and its P lines
abbrev pub decl_row : List Line → ℕ → ℕ → ℕ → Line
decl_row ls d kind end = row local_line (number (head_line ls d) 0 ∷ number (head_line ls d) 1 ∷ kind ∷ length (params_of ls d) ∷ end ∷ [])

abbrev pub head_rows : List Line → ℕ → ℕ → ℕ → List Line
head_rows ls d kind end = decl_row ls d kind end ∷ map param_row (params_of ls d)

-- with the lines of the body, and the V line
abbrev pub framed : List Line → ℕ → ℕ → ℕ → Writing → Writing
framed ls d kind end body = seq (seq (fixed (head_rows ls d kind end)) body) (one verdict_row)

-- a body with no lines
abbrev pub bare : List Line → ℕ → ℕ → ℕ → Writing
bare ls d kind end = framed ls d kind end none
