-- The keep table: for each declaration the slots of its constructors, one after the other. Assumes nothing.
use Rattle.std.specs.Prelude.{◌≡◌, List, Bool, false, not, ℕ, suc, ◌+◌, ◌≤◌, ◌<◌, eqb, length, get_or}
use Rattle.number_columns.specs.Column.{pick}
use Rattle.sheet.specs.Line.{Line, number}
use Rattle.model.specs.Decl.{Dtype, Origin, here, imported, Decl, dtype_at, origin_at, bit}
use Rattle.model.specs.Erasure.{marked, erasure_fixpoint}
use Rattle.model.specs.Layout.{ctor_layouts}
use Rattle.meaning.specs.Output.{all_slots}
use Rattle.meaning.specs.Program.{type_line, field_line, import_line, is, program}
use Rattle.meaning.specs.Rows.{count_of}
use Rattle.table_access.specs.Tables.{nth, head_line, decls_of, first_of}
use Rattle.erasure_marks.specs.Marks.{type_erased}
use Rattle.erasure_laws.specs.Bodies.{field_type}

-- the slots of a declaration's constructors: by its types, and an import's by its lines
unfoldable pub slots_of : (ℕ → Bool) → Dtype → Origin → List Bool
slots_of er d here = all_slots (ctor_layouts er d)
slots_of er d (imported ti) = all_slots ti.ti_ctors

-- of declaration d, where the marks are those of the rounds
abbrev pub slots_at : List Decl → ℕ → List Bool
slots_at ds d = slots_of (marked ds (erasure_fixpoint ds).marks) (dtype_at ds d) (origin_at ds d)

-- which types are erased under the marks of the rounds
abbrev pub erased_at : List Line → ℕ → Bool
erased_at ls y = type_erased ls (erasure_fixpoint (program ls)).marks y

pub record Erased (ls : List Line) (node : List ℕ) : Type 0 where
  pub marks : (y : ℕ) → y < count_of type_line ls → get_or node y 0 ≡ bit (erased_at ls y)
  pub size : count_of type_line ls ≤ length node

-- field f, of an imported declaration or of a local one
abbrev pub field_kept : List Line → ℕ → Bool → Bool
field_kept ls f import = pick import (not (eqb (number (nth field_line ls f) 2) 0)) (not (erased_at ls (field_type ls f)))

-- the fields of the first n declarations
pub record Kept (ls : List Line) (keep : List ℕ) (n : ℕ) : Type 0 where
  pub size : count_of field_line ls ≤ length keep
  pub fields : (d : ℕ) → d < n → d < decls_of ls → (f : ℕ) → first_of field_line ls d ≤ f → f < first_of field_line ls (suc d) → get_or keep f 0 ≡ bit (field_kept ls f (is import_line (head_line ls d)))

-- The keep table has the slots of every declaration, from its first field on.
pub record Slotted (ls : List Line) (keep : List ℕ) : Type 0 where
  pub sized : (d : ℕ) → d < decls_of ls → first_of field_line ls d + length (slots_at (program ls) d) ≡ first_of field_line ls (suc d)
  pub slots : (d : ℕ) → d < decls_of ls → (j : ℕ) → j < length (slots_at (program ls) d) → get_or keep (first_of field_line ls d + j) 0 ≡ bit (get_or (slots_at (program ls) d) j false)
