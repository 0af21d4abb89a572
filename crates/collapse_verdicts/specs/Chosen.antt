-- The layout that the code chooses for a declaration, against the source's. Assumes nothing.
use Rattle.std.specs.Prelude.{◌≡◌, List, false, ℕ, ◌≤◌, ◌<◌, length}
use Rattle.sheet.specs.Line.{Line}
use Rattle.model.specs.Layout.{newtype_of, collapse}
use Rattle.meaning.specs.Program.{field_line, program}
use Rattle.meaning.specs.Rows.{count_of}
use Rattle.table_access.specs.Tables.{decls_of}
use Rattle.keep_layouts.specs.Kept.{ctors_at}
use Rattle.keep_layouts.specs.declared.Layout.{Layout}
use Rattle.keep_layouts.specs.declared.Layout.TheVariants.{Newtype}
use Rattle.keep_layouts.specs.Layouts.{layout_told}
use Rattle.collapse_newtypes.specs.Newtypes.{ctor_told}
use Rattle.collapse_candidates.specs.Candidates.{candidate_of, Fields}
use Rattle.collapse_verdicts.specs.Guard.{dropped_of, Guarded}
use Rattle.model.specs.Decl as decl

-- the candidates are known, and which of them are dropped
pub record Screened (ls : List Line) (fields found : List ℕ) : Type 0 where
  pub candidates : Fields ls fields
  pub guarded : Guarded ls fields found
  pub long : decls_of ls ≤ length found

-- declaration d by its candidate, where it has constructors, and by its kept fields, where it is an import
abbrev pub collapsed : List Line → ℕ → decl.Layout
collapsed ls d = collapse (dropped_of ls d) (candidate_of ls d) (ctors_at (program ls) d)

abbrev pub kept_one : List Line → ℕ → decl.Layout
kept_one ls d = collapse false (newtype_of (ctors_at (program ls) d)) (ctors_at (program ls) d)

-- the newtype of declaration d whose payload is F line f
abbrev pub newtype : List Line → ℕ → ℕ → Layout
newtype ls d f = Newtype (ctor_told ls d) f

-- l is layout m of declaration d, and the field of a newtype is one of the sheet's
pub record Chosen (ls : List Line) (d : ℕ) (m : decl.Layout) (l : Layout) : Type 0 where
  pub told : layout_told ls d l ≡ m
  pub field : (ctor f : ℕ) → l ≡ Newtype ctor f → f < count_of field_line ls
