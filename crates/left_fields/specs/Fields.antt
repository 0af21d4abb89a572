-- The fields that are left of a declaration, by its F lines. Assumes nothing.
use Rattle.std.specs.Prelude.{◌≡◌, List, map, ℕ, zero, suc, ◌+◌, ◌≤◌, ◌<◌, eqb, length, get_or}
use Rattle.number_columns.specs.Column.{pick}
use Rattle.sheet.specs.Line.{Line}
use Rattle.model.specs.Decl.{Field}
use Rattle.model.specs.Resolve.{resolve}
use Rattle.model.specs.Run.{resolved_field, lay}
use Rattle.meaning.specs.Program.{field_line, program}
use Rattle.meaning.specs.Rows.{count_of}
use Rattle.table_access.specs.Tables.{TableOf}
use Rattle.resolve_kids.specs.Params.{params_of}
use Rattle.keep_layouts.specs.Kept.{field_type, field_at, fields_by}
use Rattle.left_places.specs.Places.{Typed}

-- a field of declaration d, resolved
abbrev pub left_of : List Line → Field → Field
left_of ls = resolved_field (resolve (lay (program ls)) 100)

-- F line i of declaration d, resolved
abbrev pub left_field : List Line → ℕ → ℕ → Field
left_field ls d i = left_of ls (field_at ls (params_of ls d) i)

-- the kept ones of the n F lines from line i on
abbrev pub left_fields : List Line → List ℕ → ℕ → ℕ → ℕ → List Field
left_fields ls keep d i n = map (left_of ls) (fields_by ls keep (params_of ls d) i n)

-- how many they are
unfoldable pub kept_count : List ℕ → ℕ → ℕ → ℕ
kept_count keep i zero = 0
kept_count keep i (suc n) = pick (eqb (get_or keep (i + n) 0) 1) (suc (kept_count keep i n)) (kept_count keep i n)

-- The F lines from line i to line e of declaration d can be written, with types of at most n nodes.
pub record Fields (ls : List Line) (t u f keep : List ℕ) (d i e n : ℕ) : Type 0 where
  pub tabled : TableOf ls t
  pub inside : e ≤ count_of field_line ls
  pub long : count_of field_line ls ≤ length keep
  pub types : (j : ℕ) → i ≤ j → j < e → get_or keep j 0 ≡ 1 → Typed ls t u f (field_type ls j) d n
