-- The reach index of a program (FORMAT, section 13): for each declaration, those that are reached from its body through
-- declared bodies. Assumes nothing.
use Rattle.std.specs.Prelude.{List, [], ◌∷◌, Bool, false, ℕ, length, get_or}
use Rattle.sheet.specs.Line.{Line, row}
use Rattle.model.specs.Decl.{Decl, dtype_at, table}
use Rattle.model.specs.Layout.{positions}
use Rattle.model.specs.Names.{dtype_names}
use Rattle.model_laws.specs.Lists.{trues}
use Rattle.model_laws.specs.Reach.{reached}

-- the declarations, local and imported, that the body of declaration i names: in all its fields, kept or not, at any depth
unfoldable pub decl_next : List Decl → ℕ → List ℕ
decl_next ds i = positions ds (dtype_names (dtype_at ds i))

-- Declaration i reaches declaration j: by one step or more, as a search finds it. The claim `reach_set` says that this is `Reach`
-- of the steps, in which there is no search.
unfoldable pub reaches : List Decl → ℕ → ℕ → Bool
reaches ds i j = get_or (reached (decl_next ds) (length ds) i) j false

-- how many declarations it reaches
unfoldable pub reached_count : List Decl → ℕ → ℕ
reached_count ds i = trues (table (reaches ds i) (length ds))

-- ---- what is printed
abbrev pub index_line : ℕ
index_line = 88

-- line X of declaration i: its name, and how many it reaches
unfoldable pub x_line : List Decl → ℕ → Line
x_line ds i = row index_line ((dtype_at ds i).dt_name ∷ reached_count ds i ∷ 0 ∷ 0 ∷ 0 ∷ [])

unfoldable pub x_lines : List Decl → List Line
x_lines ds = table (x_line ds) (length ds)
