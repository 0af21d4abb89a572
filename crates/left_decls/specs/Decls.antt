-- The declaration that is left of a declaration, by its lines and cells. Assumes nothing.
use Rattle.std.specs.Prelude.{◌≡◌, ℕ, ◌*◌, ◌≤◌, ◌<◌, length}
use mathlib.Core.List.{List, Memᴰ}
use Rattle.sheet.specs.Line.{Line}
use Rattle.model.specs.Cty.{Cty}
use Rattle.model.specs.Decl.{Field, Ctor, Dtype}
use Rattle.meaning.specs.Program.{field_line}
use Rattle.meaning.specs.Rows.{count_of}
use Rattle.meaning.specs.Output.{field_lines, ctor_lines, decl_lines}
use Rattle.table_access.specs.Tables.{decls_of, TableOf}
use Rattle.keep_layouts.specs.States.{state, resolves_of}
use Rattle.left_laws.specs.BodyLaws.{left_body}
use Rattle.left_places.specs.Places.{Writing, typed, seq, Typed}
use Rattle.left_decls.specs.Heads.{by_last, decl_with, framed, bare}

-- with the body that is left
abbrev pub left_decl : List Line → List ℕ → List ℕ → ℕ → Dtype
left_decl ls u keep d = decl_with ls d (left_body ls u keep d)

-- its lines, with the types that they use
abbrev pub left_writing : List Line → List ℕ → List ℕ → ℕ → Writing
left_writing ls u keep d = decl_lines (left_decl ls u keep d) (left_body ls u keep d)

-- ---- by the body
abbrev pub abbreviated : List Line → ℕ → Cty → Writing
abbreviated ls d c = seq (typed c) (by_last (bare ls d 1))

abbrev pub recorded : List Line → ℕ → List Field → Writing
recorded ls d fs = framed ls d 2 (length fs) (field_lines fs)

abbrev pub varied : List Line → ℕ → List Ctor → Writing
varied ls d cs = framed ls d 3 (length cs) (ctor_lines cs)

-- Declaration d is left, and its types can be written, with at most n nodes.
pub record Given (ls : List Line) (t u f keep : List ℕ) (d n : ℕ) : Type 0 where
  pub tabled : TableOf ls t
  pub decl : d < decls_of ls
  pub states : length u ≡ 2 * decls_of ls
  pub long : count_of field_line ls ≤ length keep
  pub stays : state u d ≡ 0 → ⊥
  pub types : (y : ℕ) → Memᴰ y (resolves_of ls u keep d) → Typed ls t u f y d n
