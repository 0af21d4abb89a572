-- The candidates for a newtype, by the F lines of their payloads. Assumes nothing.
use Rattle.std.specs.Prelude.{◌≡◌, List, true, ℕ, ◌≤◌, ◌<◌, ltb, length, get_or, Some, None}
use Rattle.std.proofs.Math.Option.{Option, none, some}
use Rattle.number_columns.specs.Column.{pick}
use Rattle.sheet.specs.Line.{Line}
use Rattle.model.specs.Decl.{NewtypeLayout}
use Rattle.model.specs.Erasure.{erasure_fixpoint}
use Rattle.model.specs.Layout.{candidates_of}
use Rattle.meaning.specs.Program.{field_line, program}
use Rattle.meaning.specs.Rows.{count_of}
use Rattle.table_access.specs.Tables.{decls_of, first_of}
use Rattle.erasure_marks.specs.Marks.{marks_of}
use Rattle.keep_fields.specs.Keeps.{Slotted}
use Rattle.keep_layouts.specs.Layouts.{newtype_told}
use Rattle.std.specs.Prelude as prelude
use Rattle.collapse_newtypes.specs.Newtypes.{one_ctor, ctor_told}

-- the marks of declarations are those of the rounds
pub record Marked (ls : List Line) (decl : List ℕ) : Type 0 where
  pub marks : marks_of decl ≡ (erasure_fixpoint (program ls)).marks
  pub long : length decl ≡ decls_of ls

-- and the keep table is that of their fields
pub record Ruled (ls : List Line) (decl keep : List ℕ) : Type 0 where
  pub marked : Marked ls decl
  pub slotted : Slotted ls keep
  pub long : count_of field_line ls ≤ length keep

-- the candidate that declaration d is, under the marks of the rounds
abbrev pub candidate_of : List Line → ℕ → Option NewtypeLayout
candidate_of ls d = get_or (candidates_of (program ls) (erasure_fixpoint (program ls)).marks) d none

-- the newtype whose payload is F line f, and none where there is no such line
unfoldable pub field_told : List Line → ℕ → ℕ → Option NewtypeLayout
field_told ls d f = pick (ltb f (count_of field_line ls)) (some (newtype_told ls d (ctor_told ls d) f)) none

-- the number of no F line
abbrev pub no_field : ℕ
no_field = 65535

-- the number of the only kept field
unfoldable pub number_of : prelude.Option ℕ → ℕ
number_of (Some f) = f
number_of None = no_field

-- F line f is one of the sheet's, and declaration d has one constructor
abbrev pub Sole : List Line → ℕ → ℕ → Type 0
Sole ls d f = (f < count_of field_line ls) × (first_of field_line ls d ≤ f) × (one_ctor ls d ≡ true)

-- declaration d is a candidate by F line f, or none
pub record Candidate (ls : List Line) (d f : ℕ) : Type 0 where
  pub told : candidate_of ls d ≡ field_told ls d f
  pub named : (f ≡ no_field → ⊥) → f < count_of field_line ls
  pub one : f < count_of field_line ls → one_ctor ls d ≡ true

-- the first n declarations
pub record Partly (ls : List Line) (fields : List ℕ) (n : ℕ) : Type 0 where
  pub long : length fields ≡ decls_of ls
  pub each : (d : ℕ) → d < n → Candidate ls d (get_or fields d 0)

-- Every candidate is known by the F line of its payload.
pub record Fields (ls : List Line) (fields : List ℕ) : Type 0 where
  pub long : length fields ≡ decls_of ls
  pub each : (d : ℕ) → d < decls_of ls → Candidate ls d (get_or fields d 0)
