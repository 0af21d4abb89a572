-- Rows 8 to 10 and 13 over the table of a sheet, and what the passes leave where none of them applies. Assumes nothing.
use Rattle.std.specs.Prelude.{◌≡◌, List, [], ◌∷◌, false, ℕ, ◌*◌, ◌≤◌, ◌<◌, length, take, drop}
use Rattle.sheet.specs.Format.{base}
use Rattle.sheet.specs.Line.{Line}
use Rattle.sheet.specs.Sheet.{first, count, lines}
use Rattle.walk_cells.specs.Cells.{lines_of}
use Rattle.model.specs.Run.{run, layouts_of, returns}
use Rattle.meaning.specs.Program.{name_line, field_line, program}
use Rattle.meaning.specs.Rows.{count_of}
use Rattle.meaning_patterns.specs.Patterns.{row13}
use Rattle.answer.specs.Answer.{Row, input_refusal, refusal}
use Rattle.answer.specs.declared.Refusal.TheVariants.{Accepted, Refused}
use Rattle.answer_patterns.specs.Whole.{tail_row, input_rows}
use Rattle.table_access.specs.Tables.{decls_of, lines_in, Tabled}
use Rattle.pattern_ctors.specs.Sites.{Sited}
use Rattle.rows_heads.specs.HeadRows.{returns_row, faults_row}
use Rattle.keep_fields.specs.Keeps.{Slotted}
use Rattle.keep_layouts.specs.States.{Settled}
use Rattle.form_normal.specs.Ranks.{Ranked}
use Rattle.input_table.specs.Table.{Read, Good, Parts}
use Rattle.input_rows.specs.declared.Judged.{Judged}
use Rattle.input_rows.specs.declared.Decided.{Decided}

-- row 13 of the Q lines qs behind the lines ls
abbrev pub miscounts_row : List Line → List Line → Row
miscounts_row ls qs = tail_row 13 (length ls) (length qs) (row13 (program ls) qs)

-- the rows of the table's lines and of Q lines
abbrev pub table_rows : List Line → List Line → List Row
table_rows ls qs = returns_row ls ∷ faults_row base ls ∷ miscounts_row ls qs ∷ []

-- cells of Q lines, which passed row 5, or none
pub record Listed (names : ℕ) (q : List ℕ) : Type 0 where
  pub few : length q ≤ 1536
  pub good : Good names q

-- what row 13 asks: three cells for each name
pub record Uncounted (t q m : List ℕ) (names : ℕ) : Type 0 where
  pub tabled : Tabled t
  pub sited : Sited (lines_in t) m
  pub names_are : names ≡ count_of name_line (lines_in t)
  pub names_few : names ≤ 256
  pub listed : Listed names q

-- The passes' tables, where no declaration returns to itself and every type resolves.
pub record Found (ls : List Line) (t u rank keep : List ℕ) : Type 0 where
  pub ranked : Ranked ls t u rank
  pub settled : Settled ls u
  pub slotted : Slotted ls keep
  pub keeps : count_of field_line ls ≤ length keep
  pub no_return : (d : ℕ) → d < decls_of ls → returns (program ls) (layouts_of (program ls)) d ≡ false
  pub eight : refusal (returns_row ls ∷ []) ≡ Accepted
  pub faults : refusal (faults_row base ls ∷ []) ≡ Accepted

-- The answer r of these rows, and the tables that it leaves.
pub record Judges (t q keep u rank : List ℕ) (r : Judged) : Type 0 where
  pub answer : r.refusal ≡ refusal (table_rows (lines_in t) (lines_of q))
  pub found : r.refusal ≡ Accepted → Found (lines_in t) t u rank keep
  pub counted : r.refusal ≡ Accepted → r.rounds ≡ (run 100 (program (lines_in t))).rounds

-- ---- all rows that look at no output
-- memory for the passes of any sheet: the keep table, what becomes of each name, and ranks
pub record Room (keep u rank : List ℕ) : Type 0 where
  pub keeps : 512 ≤ length keep
  pub names : 192 ≤ length u
  pub ranks : 96 ≤ length rank

-- A refusal has no table.
abbrev pub refused_decided : ℕ → ℕ → Decided
refused_decided code place = record { refusal = Refused code place; rounds = 0; lines = 0; cells = 0; decls = 0 }

-- An accepted sheet b: its parts in the cells t, and what the passes left in the memory.
pub record Accepts (b t keep u rank : List ℕ) (r : Decided) : Type 0 where
  pub parts : Parts b t r.lines r.cells
  pub decls_are : r.decls ≡ decls_of (lines_in (take r.cells t))
  pub found : Found (lines_in (take r.cells t)) (take r.cells t) (take (2 * r.decls) u) (take r.decls rank) keep
  pub counted : r.rounds ≡ (run 100 (program (lines_in (take r.cells t)))).rounds
  pub counts :
      first (row13 (program (lines 6 (take (r.lines * 32) b))) (lines 6 (drop (r.lines * 32) b))) (count 6 (drop (r.lines * 32) b)) ≡ count 6 (drop (r.lines * 32) b)

-- The answer r of these rows, and what it leaves.
pub record Decides (b t keep u rank : List ℕ) (r : Decided) : Type 0 where
  pub answer : r.refusal ≡ refusal (input_rows base b)
  pub accepts : r.refusal ≡ Accepted → Accepts b t keep u rank r

-- The declarations b of an accepted sheet, their table and what the passes found.
pub record Clear (b t u rank keep : List ℕ) : Type 0 where
  pub read : Read b t
  pub found : Found (lines_in t) t u rank keep
  pub accepted : input_refusal base b ≡ Accepted
