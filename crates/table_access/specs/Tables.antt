-- What the passes after row 7 read of a sheet, as one list of cells: behind a header the cells of its lines, and behind these an index
-- of places, so that a line is found by its number among those of its letter. Assumes nothing.
use Rattle.std.specs.Prelude.{◌≡◌, List, [], ◌∷◌, ◌++◌, ℕ, zero, suc, ◌+◌, ◌*◌, ◌<◌, length, get_or, take, drop}
use Rattle.sheet.specs.Line.{Line}
use Rattle.model.specs.Decl.{table, position}
use Rattle.meaning.specs.Program.{name_line, arg_line, type_line, param_line, ctor_line, field_line, program}
use Rattle.meaning.specs.Rows.{count_of}
use Rattle.row4_limits.specs.Limits.{start}
use Rattle.sheet.specs.Format.{Format}
use Rattle.table_declared.specs.Passed.{Bounded, Passed}
use Rattle.table_access.specs.declared.Sizes.{Sizes}
use Rattle.walk_cells.specs.Cells.{cells, lines_of}
pub use Rattle.table_declared.specs.Lines.{nth, place_of, no_group, group, head_line, decls_of, first_of}

-- ---- sizes and places
unfoldable pub sizes_of : List Line → Sizes
sizes_of ls =
    record {
      lines = length ls;
      names = count_of name_line ls;
      args = count_of arg_line ls;
      types = count_of type_line ls;
      decls = decls_of ls;
      params = count_of param_line ls;
      ctors = count_of ctor_line ls;
      fields = count_of field_line ls;
    }

-- the cell of line i's first number; its letter stands before it
abbrev pub number_cell : ℕ → ℕ
number_cell i = 12 + 6 * i

-- where the numbers of the first A line and of the first Y line begin, and each section of the index
module _ (z : Sizes) where
  abbrev pub at_args : ℕ
  at_args = number_cell z.names

  abbrev pub at_types : ℕ
  at_types = number_cell (z.names + z.args)

  abbrev pub at_begins : ℕ
  at_begins = 11 + 6 * z.lines

  abbrev pub at_params : ℕ
  at_params = at_begins + (z.decls + 1) * 4

  abbrev pub at_ctors : ℕ
  at_ctors = at_params + z.params

  abbrev pub at_fields : ℕ
  at_fields = at_ctors + z.ctors

  abbrev pub at_names : ℕ
  at_names = at_fields + z.fields

  -- how many cells a sheet needs
  abbrev pub cell_count : ℕ
  cell_count = at_names + z.names

-- ---- the cells
unfoldable pub header : Sizes → List ℕ
header z =
    z.types
    ∷ z.decls
    ∷ z.names
    ∷ z.lines
    ∷ at_args z
    ∷ at_types z
    ∷ at_begins z
    ∷ at_params z
    ∷ at_ctors z
    ∷ at_fields z
    ∷ at_names z
    ∷ []

-- n rows, one behind the other
unfoldable pub rows : (ℕ → List ℕ) → ℕ → List ℕ
rows f zero = []
rows f (suc n) = rows f n ++ f n

-- the line of declaration d, and the P, C and F lines before it
abbrev pub begin_row : List Line → ℕ → List ℕ
begin_row ls d = start ls d ∷ first_of param_line ls d ∷ first_of ctor_line ls d ∷ first_of field_line ls d ∷ []

-- where the numbers of each line of a letter stand
abbrev pub places : ℕ → List Line → List ℕ
places x ls = table (λ j. number_cell (place_of x ls j)) (count_of x ls)

unfoldable pub sections : List Line → List (List ℕ)
sections ls =
    header (sizes_of ls)
    ∷ cells ls
    ∷ rows (begin_row ls) (decls_of ls + 1)
    ∷ places param_line ls
    ∷ places ctor_line ls
    ∷ places field_line ls
    ∷ table (position (program ls)) (count_of name_line ls)
    ∷ []

unfoldable pub joined : List (List ℕ) → List ℕ
joined [] = []
joined (s ∷ ss) = s ++ joined ss

unfoldable pub cells_of : List Line → List ℕ
cells_of ls = joined (sections ls)

-- cell j of the section whose place header cell h has, and that it is one of the cells
abbrev pub cell_at : List ℕ → ℕ → ℕ → ℕ
cell_at t h j = get_or t (get_or t h 0 + j) 0

pub record Within (t : List ℕ) (h j : ℕ) : Type 0 where
  pub in_header : h < length t
  pub in_section : get_or t h 0 + j < length t

-- These lines passed rows 1 to 7, and the table has their cells.
pub record TableOf (ls : List Line) (t : List ℕ) : Type 0 where
  pub passed : Passed ls
  pub holds : t ≡ cells_of ls

-- ---- a table by itself
-- the lines whose cells stand in it
unfoldable pub lines_in : List ℕ → List Line
lines_in t = lines_of (take (6 * get_or t 3 0) (drop 11 t))

abbrev pub Tabled : List ℕ → Type 0
Tabled t = TableOf (lines_in t) t

-- and whose lines are within the limits of a format, for the owner of arrays of its sizes
pub record TabledIn (f : Format) (t : List ℕ) : Type 0 where
  pub tabled : Tabled t
  pub bounded : Bounded f (lines_in t)
