-- The parameters of a declaration, from its P lines. Assumes nothing.
use Rattle.std.specs.Prelude.{List, [], ◌∷◌, ℕ, zero, suc, ◌+◌, ◌-◌}
use Rattle.sheet.specs.Line.{Line, number}
use Rattle.meaning.specs.Program.{param_line}
use Rattle.table_access.specs.Tables.{nth, first_of}

-- the names of n P lines from line p on
unfoldable pub params_from : List Line → ℕ → ℕ → List ℕ
params_from ls p zero = []
params_from ls p (suc n) = number (nth param_line ls p) 0 ∷ params_from ls (suc p) n

abbrev pub params_of : List Line → ℕ → List ℕ
params_of ls d = params_from ls (first_of param_line ls d) (first_of param_line ls (d + 1) - first_of param_line ls d)
