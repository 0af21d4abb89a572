-- What is left of a sheet's declarations, one after the other. Assumes nothing.
use Rattle.std.specs.Prelude.{List, [], ◌∷◌, ℕ, ◌≤◌, length}
use Rattle.sheet.specs.Line.{Line}
use Rattle.model.specs.Decl.{Dtype, table}
use Rattle.model.specs.Run.{somes, left_at}
use Rattle.meaning.specs.Program.{field_line, program}
use Rattle.meaning.specs.Rows.{count_of}
use Rattle.left_laws.specs.Lefts.{Ready, Flagged, Fit}

-- of the first n declarations, and of declaration d
abbrev pub lefts_to : List Line → ℕ → List Dtype
lefts_to ls n = somes (table (left_at 100 (program ls)) n)

abbrev pub lefts_at : List Line → ℕ → List Dtype
lefts_at ls d = somes (left_at 100 (program ls) d ∷ [])

-- The declarations that are left can be written, with types of at most n nodes.
pub record Lefts (ls : List Line) (t u f keep left : List ℕ) (n : ℕ) : Type 0 where
  pub ready : Ready ls t u f keep
  pub flagged : Flagged ls left
  pub fit : Fit ls u keep n
  pub long : count_of field_line ls ≤ length keep
