-- The flags of the parts of a `PRecord` by the tables of the passes: u says what becomes of a type's name, and the keep table
-- which fields are kept. Assumes nothing.
use Rattle.std.specs.Prelude.{List, Bool, false, ◌&&◌, ◌||◌, ℕ, zero, suc, ◌-◌, ◌≤◌, ◌<◌, eqb, length, get_or}
use Rattle.number_columns.specs.Column.{pick, ◌⇒◌∥◌}
use Rattle.sheet.specs.Line.{Line, number}
use Rattle.meaning.specs.Program.{field_line}
use Rattle.meaning.specs.Rows.{count_of}
use Rattle.table_access.specs.Tables.{nth, decls_of, first_of, lines_in, Tabled}
use Rattle.keep_layouts.specs.States.{state}
use Rattle.collapse_newtypes.specs.Newtypes.{one_ctor}
use Rattle.pattern_laws.specs.Marks.{kept_if, has_field, fields_to}

-- the F lines of declaration d are in the keep table
pub record Reading (t keep : List ℕ) (d : ℕ) : Type 0 where
  pub tabled : Tabled t
  pub declared : d < decls_of (lines_in t)
  pub long : count_of field_line (lines_in t) ≤ length keep

-- F line f is kept, and x is its name plus one
unfoldable pub keeps_name : List Line → List ℕ → ℕ → ℕ → Bool
keeps_name ls keep f x = eqb (get_or keep f 0) 1 && eqb x (suc (number (nth field_line ls f) 0))

-- one of the n F lines from line f on is
unfoldable pub names_kept : List Line → List ℕ → ℕ → ℕ → ℕ → Bool
names_kept ls keep f zero x = false
names_kept ls keep f (suc n) x = keeps_name ls keep f x || names_kept ls keep (suc f) n x

unfoldable pub decl_names : List Line → List ℕ → ℕ → ℕ → Bool
decl_names ls keep d x = names_kept ls keep (first_of field_line ls d) (first_of field_line ls (suc d) - first_of field_line ls d) x

unfoldable pub newtype_flag : List Line → List ℕ → List Line → ℕ → ℕ → ℕ → ℕ
newtype_flag ls keep qs d link f = decl_names ls keep d f ⇒ pick (has_field f (fields_to qs link)) 2 1 ∥ 0

unfoldable pub struct_flag : List Line → List ℕ → ℕ → ℕ → ℕ
struct_flag ls keep d f = one_ctor ls d ⇒ kept_if (decl_names ls keep d f) ∥ 1

unfoldable pub record_flag : List Line → List ℕ → List ℕ → List Line → ℕ → ℕ → ℕ → ℕ
record_flag ls keep u qs d link f =
    eqb d (decls_of ls) ⇒ 1 ∥
    eqb (state u d) 0 ⇒ 0 ∥
    eqb (state u d) 1 ⇒ newtype_flag ls keep qs d link f ∥
    struct_flag ls keep d f
