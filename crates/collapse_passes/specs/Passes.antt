-- The types that the guard goes on through, by Y lines. Assumes nothing.
use Rattle.std.specs.Prelude.{◌≡◌, List, [], Bool, true, false, ◌||◌, ℕ, ◌/◌, ◌%◌, ◌<◌, eqb, ltb, length, get_or}
use Rattle.std.proofs.Math.Option.{Option, none, some}
use Rattle.number_columns.specs.Column.{pick}
use Rattle.sheet.specs.Line.{Line, number}
use Rattle.model.specs.Cty.{Cty}
use Rattle.model.specs.Decl.{close, Layout, L_erased, L_newtype, L_struct, L_abbrev, L_opaque, dtype_at, origin_at}
use Rattle.model.specs.Erasure.{erasure_fixpoint}
use Rattle.model.specs.Layout.{layout_of, passes_of}
use Rattle.model.specs.Resolve.{abbreviation_of, unfold_of}
use Rattle.meaning.specs.Program.{type_line, program}
use Rattle.meaning.specs.Rows.{count_of}
use Rattle.table_access.specs.Tables.{head_line, decls_of}
use Rattle.resolve_kids.specs.Nodes.{type_of}
use Rattle.resolve_kids.specs.Params.{params_of}

-- declaration d has `Realized` or `NoUnfold`, which leave its name
abbrev pub named : List Line → ℕ → Bool
named ls d = eqb (number (head_line ls d) 1 / 2 % 2) 1 || eqb (number (head_line ls d) 1 / 8 % 2) 1

-- the type that the guard goes on through at declaration d, under the marks of the rounds
abbrev pub passed_of : List Line → ℕ → Option Cty
passed_of ls d = get_or (passes_of (program ls) (erasure_fixpoint (program ls)).marks) d none

-- the layout of declaration d where it is no candidate, less its constructors
abbrev pub laid : List Line → ℕ → Layout
laid ls d = layout_of (dtype_at (program ls) d) (origin_at (program ls) d) (get_or (erasure_fixpoint (program ls)).marks d false) true none []

-- the type that it abbreviates then, if it is unfolded
abbrev pub abbreviates : List Line → ℕ → Option Cty
abbreviates ls d = abbreviation_of (unfold_of (dtype_at (program ls) d) (laid ls d))

abbrev pub is_erased : Layout → Bool
is_erased L_erased = true
is_erased (L_newtype nt) = false
is_erased (L_struct cls) = false
is_erased (L_abbrev c) = false
is_erased L_opaque = false

-- the type of Y line y, closed by the parameters of declaration d, and none where there is no such line
unfoldable pub body_told : List Line → ℕ → ℕ → Option Cty
body_told ls d y = pick (ltb y (count_of type_line ls)) (some (close (params_of ls d) (type_of ls y))) none

-- the first n declarations
pub record Partly (ls : List Line) (bodies : List ℕ) (n : ℕ) : Type 0 where
  pub long : length bodies ≡ decls_of ls
  pub each : (d : ℕ) → d < n → passed_of ls d ≡ body_told ls d (get_or bodies d 0)

-- What the guard goes on through is known by Y lines.
pub record Passes (ls : List Line) (bodies : List ℕ) : Type 0 where
  pub long : length bodies ≡ decls_of ls
  pub each : (d : ℕ) → d < decls_of ls → passed_of ls d ≡ body_told ls d (get_or bodies d 0)
