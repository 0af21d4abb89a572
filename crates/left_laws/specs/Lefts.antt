-- What is left of an accepted sheet's declarations, by the tables of the passes. Assumes nothing.
use Rattle.std.specs.Prelude.{◌≡◌, Bool, true, false, ℕ, ◌≤◌, ◌<◌, length, get_or, Option as Maybe, Some, None}
use mathlib.Core.List.{List, [], Memᴰ}
use Rattle.std.proofs.Math.Option.{Option, none, some}
use Rattle.sheet.specs.Format.{base}
use Rattle.sheet.specs.Line.{Line}
use Rattle.model.specs.Cty.{size}
use Rattle.model.specs.Decl.{Dtype, bit}
use Rattle.model.specs.Run.{left_at, run, left_program, record_of}
use Rattle.meaning.specs.Program.{program}
use Rattle.meaning.specs.Output.{Lines, program_lines}
use Rattle.rows_heads.specs.HeadRows.{Resolvable}
use Rattle.table_access.specs.Tables.{decls_of, TableOf}
use Rattle.keep_fields.specs.Keeps.{Slotted}
use Rattle.keep_layouts.specs.States.{Open, resolves_of, Settled}
use Rattle.form_emit.specs.Left.{left_type}
use Rattle.form_normal.specs.Tables.{Table}
use Rattle.left_laws.specs.declared.Count.{Count}

-- None of rows 1 to 10 applies; the cells u say what becomes of each declaration, keep is the keep table, and f has
-- the normal forms of unfolded declarations.
pub record Ready (ls : List Line) (t u f keep : List ℕ) : Type 0 where
  pub tabled : TableOf ls t
  pub settled : Settled ls u
  pub slotted : Slotted ls keep
  pub resolvable : Resolvable base ls
  pub place : ℕ
  pub forms : Table ls u f place (λ d. (d < decls_of ls) × Open u d)

-- ---- for each declaration, in one cell
-- whether it leaves a declaration
unfoldable pub is_left : Option Dtype → Bool
is_left none = false
is_left (some d) = true

pub record Flagged (ls : List Line) (left : List ℕ) : Type 0 where
  pub long : decls_of ls ≤ length left
  pub flags : (d : ℕ) → d < decls_of ls → get_or left d 0 ≡ bit (is_left (left_at 100 (program ls) d))

-- its record number
pub record Recorded (ls : List Line) (records : List ℕ) : Type 0 where
  pub long : decls_of ls ≤ length records
  pub numbers : (d : ℕ) → d < decls_of ls → get_or records d 0 ≡ bit (record_of (left_at 100 (program ls) d))

-- ---- the left sheet's lines
-- the A, Y and declaration lines of what is left
abbrev pub left_written : List Line → Lines
left_written ls = program_lines (left_program (run 100 (program ls))) (record { args = []; types = [] })

-- every type of a declaration that is left has at most n nodes
abbrev pub Fit : List Line → List ℕ → List ℕ → ℕ → Type 0
Fit ls u keep n =
    (d y : ℕ) → d < decls_of ls → is_left (left_at 100 (program ls) d) ≡ true → Memᴰ y (resolves_of ls u keep d) → size (left_type ls d y) ≤ n

-- the counts, where n words have room for every type
pub record Counted (ls : List Line) (u keep : List ℕ) (n : ℕ) (r : Maybe Count) : Type 0 where
  pub args : (c : Count) → r ≡ Some c → c.args ≡ length (left_written ls).written.args
  pub types : (c : Count) → r ≡ Some c → c.types ≡ length (left_written ls).written.types
  pub lines_are : (c : Count) → r ≡ Some c → c.lines ≡ length (left_written ls).lines
  pub fit : (c : Count) → r ≡ Some c → Fit ls u keep n
  pub short : r ≡ None → n < 1024
