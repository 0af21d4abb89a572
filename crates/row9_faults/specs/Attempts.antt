-- What an attempt at rows 9 and 10 asks, and what it comes to. Assumes nothing.
use Rattle.std.specs.Prelude.{◌≡◌, List, false, ℕ, ◌*◌, ◌≤◌, ◌<◌, eqb, length, Result, Ok, Err}
use Rattle.number_columns.specs.Column.{pick, ◌⇒◌∥◌}
use Rattle.model.specs.Run.{layouts_of, returns, decl_fault}
use Rattle.meaning.specs.Program.{program, field_line}
use Rattle.meaning.specs.Rows.{count_of}
use Rattle.sheet.specs.Format.{base}
use Rattle.table_declared.specs.Passed.{Bounded}
use Rattle.table_access.specs.Tables.{decls_of, TableOf}
use Rattle.resolve_laws.specs.Resolver.{fuel_of}
use Rattle.keep_fields.specs.Keeps.{Slotted}
use Rattle.keep_layouts.specs.States.{Settled}
use Rattle.row9_faults.specs.declared.attempts.Fault.{Fault}
use Rattle.row9_faults.specs.declared.attempts.Fault.TheVariants.{Refused, NoRoom}
use Rattle.sheet.specs.Line.{Line}

-- what is asked: the table, in the limits of the format, the cells of names, the keep table, and that row 8 passed
pub record Asked (ls : List Line) (t u keep : List ℕ) : Type 0 where
  pub tabled : TableOf ls t
  pub bounded : Bounded base ls
  pub settled : Settled ls u
  pub slotted : Slotted ls keep
  pub fields : count_of field_line ls ≤ length keep
  pub no_return : (d : ℕ) → d < decls_of ls → returns (program ls) (layouts_of (program ls)) d ≡ false

-- the code of the fault that declaration d meets first, 0 where there is none
abbrev pub fault_of : List Line → ℕ → ℕ
fault_of ls d = decl_fault 1024 100 (program ls) (layouts_of (program ls)) d

-- declaration d is the first with a fault
pub record FaultAt (ls : List Line) (code d : ℕ) : Type 0 where
  pub inside : d < decls_of ls
  pub before : (i : ℕ) → i < d → fault_of ls i ≡ 0
  pub is : code ≡ fault_of ls d
  pub any : code ≡ 0 → ⊥

-- what an attempt with so many places comes to; with 1,024 for each unit of fuel there is always room
abbrev pub Comes : List Line → ℕ → Result (Unit {0}) Fault → Type 0
Comes ls room (Ok x) = (d : ℕ) → d < decls_of ls → fault_of ls d ≡ 0
Comes ls room (Err (Refused code d)) = FaultAt ls code d
Comes ls room (Err NoRoom) = room < 1024 * fuel_of ls

-- by the answer of the search, and its declaration
unfoldable pub outcome_of : ℕ → ℕ → Fault
outcome_of r d = eqb r 1 ⇒ NoRoom ∥ Refused (pick (eqb r 2) 9 10) d
