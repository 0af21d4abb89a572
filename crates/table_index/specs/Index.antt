-- How far the table of lines is filled. Assumes nothing.
use Rattle.std.specs.Prelude.{◌≡◌, List, [], ◌∷◌, ℕ, ◌+◌, ◌*◌, ◌≤◌, ◌<◌, ltb, length, get_or}
use Rattle.number_columns.specs.Column.{pick}
use Rattle.sheet.specs.Line.{Line}
use Rattle.model.specs.Decl.{position}
use Rattle.meaning.specs.Program.{name_line, param_line, ctor_line, field_line, program}
use Rattle.meaning.specs.Rows.{count_of, count_before, heads_before}
use Rattle.rows_header.specs.Header.{header}
use Rattle.table_declared.specs.Passed.{Passed}
use Rattle.table_access.specs.declared.Sizes.{Sizes}
use Rattle.table_access.specs.Tables.{decls_of, sizes_of, at_begins, at_params, at_ctors, at_fields, at_names, cell_count, cells_of}
use Rattle.table_sizes.specs.Sizing.{lines_behind}
use Rattle.table_sizes.specs.Filling.{Agree}
use Rattle.table_index.specs.declared.Seen.{Seen}

-- ---- before the walk
-- the lines behind the room for the header passed rows 1 to 7, are of these sizes, and there is room for the table
pub record Ready (z : Sizes) (t : List ℕ) : Type 0 where
  pub passed : Passed (lines_behind z t)
  pub sizes : z ≡ sizes_of (lines_behind z t)
  pub room : length t ≡ cell_count z

-- ---- lines passed
unfoldable pub seen_before : List Line → ℕ → Seen
seen_before ls i =
    record {
      decls = heads_before ls i;
      params = count_before param_line ls i;
      ctors = count_before ctor_line ls i;
      fields = count_before field_line ls i;
    }

-- where a declaration begins
abbrev pub begin_of : ℕ → Seen → ℕ → ℕ
begin_of i c k = get_or (i ∷ c.params ∷ c.ctors ∷ c.fields ∷ []) k 0

-- counts that cells hold
pub record Fits (i : ℕ) (c : Seen) : Type 0 where
  pub line : i < 65536
  pub params : c.params < 65536
  pub ctors : c.ctors < 65536
  pub fields : c.fields < 65536

-- ---- the table
-- the declaration of name n where d declarations have their names and the other names are foreign
abbrev pub named : List Line → ℕ → ℕ → ℕ
named ls d n = pick (ltb (position (program ls) n) d) (position (program ls) n) (decls_of ls)

-- the header and the cells of the lines are there
pub record Headed (ls : List Line) (t : List ℕ) : Type 0 where
  pub sized : length t ≡ length (cells_of ls)
  pub begun : Agree (cells_of ls) t 0 (at_begins (sizes_of ls))

-- and what the lines before line i say
pub record Filled (ls : List Line) (t : List ℕ) (i : ℕ) : Type 0 where
  pub headed : Headed ls t
  pub begins : Agree (cells_of ls) t (at_begins (sizes_of ls)) (at_begins (sizes_of ls) + heads_before ls i * 4)
  pub params : Agree (cells_of ls) t (at_params (sizes_of ls)) (at_params (sizes_of ls) + count_before param_line ls i)
  pub ctors : Agree (cells_of ls) t (at_ctors (sizes_of ls)) (at_ctors (sizes_of ls) + count_before ctor_line ls i)
  pub fields : Agree (cells_of ls) t (at_fields (sizes_of ls)) (at_fields (sizes_of ls) + count_before field_line ls i)
  pub names : (n : ℕ) → n < count_of name_line ls → get_or t (at_names (sizes_of ls) + n) 0 ≡ named ls (heads_before ls i) n

-- at line i, with the lines before it counted
pub record Reached (ls : List Line) (t : List ℕ) (i : ℕ) (c : Seen) : Type 0 where
  pub passed : Passed ls
  pub inside : i ≤ length ls
  pub seen : c ≡ seen_before ls i
  pub filled : Filled ls t i

-- before the declarations
pub record Begun (ls : List Line) (t : List ℕ) : Type 0 where
  pub passed : Passed ls
  pub filled : Filled ls t (header ls)
