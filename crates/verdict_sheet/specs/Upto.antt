-- The verdict sheet while it is written over a copy of the sheet, line after line. Assumes nothing.
use Rattle.std.specs.Prelude.{◌≡◌, List, ◌++◌, false, ℕ, suc, ◌≤◌, ◌<◌, eqb, length, take, drop}
use Rattle.number_columns.specs.Column.{◌⇒◌∥◌}
use Rattle.sheet.specs.Line.{Line}
use Rattle.sheet.specs.Format.{base}
use Rattle.sheet.specs.Sheet.{count, lines, encodes, row1, row2}
use Rattle.model.specs.Run.{run}
use Rattle.meaning.specs.Program.{ctor_line, field_line, import_line, is, program}
use Rattle.meaning.specs.Rows.{count_of, count_before}
use Rattle.meaning.specs.Output.{verdict_lines}
use Rattle.row4_limits.specs.Limits.{start}
use Rattle.table_declared.specs.Passed.{Passed}
use Rattle.table_access.specs.Tables.{head_line, decls_of, lines_in}
use Rattle.table_access.specs.OfSheet.{OfSheet}
use Rattle.keep_fields.specs.Keeps.{Slotted}
use Rattle.keep_layouts.specs.States.{Settled}
use Rattle.left_laws.specs.Lefts.{Recorded}
use Rattle.verdict_sheet.specs.declared.Counts.{Counts}

-- a layout's number, by the cell that says how the name is replaced, and by the body kind
unfoldable pub number_by : ℕ → ℕ → ℕ
number_by state kind = eqb state 0 ⇒ 0 ∥ eqb state 1 ⇒ 1 ∥ eqb kind 0 ⇒ 4 ∥ eqb kind 1 ⇒ 3 ∥ 2

-- the lines of the verdict sheet
abbrev pub verdicts : List Line → List Line
verdicts ls = verdict_lines ls (run 100 (program ls)).infos

-- an output that began as `old`: the first i lines of the verdict sheet, the sheet's lines from there on, and then its bytes as they were
unfoldable pub upto : List ℕ → ℕ → List ℕ → List ℕ
upto b i old = encodes 6 (take i (verdicts (lines 6 b)) ++ drop i (lines 6 b)) ++ drop (length b) old

-- bytes that passed rows 1 to 7
pub record Sheet (b : List ℕ) : Type 0 where
  pub short : row1 base b ≡ false
  pub no_bad : row2 6 b ≡ count 6 b
  pub passed : Passed (lines 6 b)

-- what is known of a sheet before its verdicts are written: its table, what becomes of each declaration, the keep table, the record numbers
pub record Known (b t u keep records : List ℕ) : Type 0 where
  pub of : OfSheet b t
  pub settled : Settled (lines_in t) u
  pub slotted : Slotted (lines 6 b) keep
  pub sized : count_of field_line (lines 6 b) ≤ length keep
  pub recorded : Recorded (lines 6 b) records

-- line i is one of declaration d, which is local, and the next to be written
pub record Next (b out : List ℕ) (d i : ℕ) : Type 0 where
  pub declared : d < decls_of (lines 6 b)
  pub local : is import_line (head_line (lines 6 b) d) ≡ false
  pub from : start (lines 6 b) d ≤ i
  pub to : i < start (lines 6 b) (suc d)
  pub room : length b ≤ length out
  pub written : out ≡ upto b i out

-- how many F and C lines stand before line i
abbrev pub counts_before : List Line → ℕ → Counts
counts_before ls i = record { fields = count_before field_line ls i; ctors = count_before ctor_line ls i }

-- line i is written, and r counts the lines up to it
pub record Moved (b out out' : List ℕ) (i : ℕ) (r : Counts) : Type 0 where
  pub counts : r ≡ counts_before (lines 6 b) (suc i)
  pub written : out' ≡ upto b (suc i) out
