-- The lines that stand behind the room for a header, and what is counted of them for the limits. Assumes nothing.
use Rattle.std.specs.Prelude.{◌≡◌, List, ℕ, ◌*◌, length, take, drop}
use Rattle.sheet.specs.Line.{Line}
use Rattle.walk_cells.specs.Cells.{lines_of}
use Rattle.meaning.specs.Program.{name_line, arg_line, type_line, ctor_line, field_line}
use Rattle.meaning.specs.Rows.{count_of}
use Rattle.table_declared.specs.Passed.{Passed}
use Rattle.table_access.specs.declared.Sizes.{Sizes}
use Rattle.table_access.specs.Tables.{decls_of}

-- n lines whose cells stand behind the room for the header
abbrev pub behind : ℕ → List ℕ → List Line
behind n t = lines_of (take (6 * n) (drop 11 t))

abbrev pub lines_behind : Sizes → List ℕ → List Line
lines_behind z t = behind z.lines t

-- These lines passed rows 1 to 7, and there are so many, and of each kind.
pub record Counted (ls : List Line) (lines names args types decls ctors fields : ℕ) : Type 0 where
  pub passed : Passed ls
  pub lines_are : lines ≡ length ls
  pub names_are : names ≡ count_of name_line ls
  pub args_are : args ≡ count_of arg_line ls
  pub types_are : types ≡ count_of type_line ls
  pub decls_are : decls ≡ decls_of ls
  pub ctors_are : ctors ≡ count_of ctor_line ls
  pub fields_are : fields ≡ count_of field_line ls
