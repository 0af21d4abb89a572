-- What is known of a sheet, of the table of its declarations and of the cells of its Q lines between the rows and the passes.
-- Assumes nothing.
use Rattle.std.specs.Prelude.{◌≡◌, List, map, ◌++◌, false, ℕ, ◌+◌, ◌*◌, ◌≤◌, ◌<◌, length, take, drop}
use Rattle.sheet.specs.Format.{base}
use Rattle.sheet.specs.Sheet.{first, count, lines, row1, row2}
use Rattle.walk_cells.specs.Cells.{lines_of, bare}
use Rattle.meaning.specs.Program.{name_line}
use Rattle.meaning.specs.Rows.{count_of}
use Rattle.pattern_rows.specs.Links as links
use Rattle.answer.specs.declared.Refusal.TheVariants.{Accepted, Refused}
use Rattle.answer.specs.Answer.{sheet_rows, refusal}
use Rattle.answer_patterns.specs.Whole as whole
use Rattle.answer_patterns.specs.Whole.{front_count}
use Rattle.answer_pattern_laws.specs.Parted.{Parted}
use Rattle.row4_limits.specs.declared.Counts.{Counts}
use Rattle.row4_limits.specs.Limits.{counts_of}
use Rattle.table_declared.specs.Passed.{Bounded, Passed}
use Rattle.table_access.specs.declared.Sizes.{Sizes}
use Rattle.table_access.specs.OfSheet.{OfSheet}
use Rattle.table_sizes.specs.Sizing.{behind, lines_behind}
use Rattle.table_index.specs.Index.{Ready}
use Rattle.input_table.specs.declared.Front.{Front}

-- None of rows 1 to 7 applies.
pub record Accepts (b : List ℕ) : Type 0 where
  pub short : row1 base b ≡ false
  pub no_bad : row2 6 b ≡ count 6 b
  pub sheet : refusal (sheet_rows base b) ≡ Accepted

-- The lines' cells stand behind the header, and they are counted; there is room for the table.
pub record Checked (b t : List ℕ) (c : Counts) : Type 0 where
  pub accepts : Accepts b
  pub lines_are : behind (count 6 b) t ≡ map bare (lines 6 b)
  pub passed : Passed (behind (count 6 b) t)
  pub bounded : Bounded base (behind (count 6 b) t)
  pub counts : c ≡ counts_of (behind (count 6 b) t)
  pub room : 8 * count 6 b + 16 ≤ length t

-- The same, with as much memory as the table needs.
pub record Lined (b t : List ℕ) (z : Sizes) : Type 0 where
  pub accepts : Accepts b
  pub lines_are : lines_behind z t ≡ map bare (lines 6 b)
  pub bounded : Bounded base (lines_behind z t)
  pub ready : Ready z t

-- ---- sheets to which none of rows 1 to 7 applies
-- A table beside the bytes of declarations.
pub record Read (b t : List ℕ) : Type 0 where
  pub of : OfSheet b t
  pub sheet : refusal (sheet_rows base b) ≡ Accepted

-- no Q line is out of range
abbrev pub Good : ℕ → List ℕ → Type 0
Good names q = first (links.row5 names (lines_of q)) (length (lines_of q)) ≡ length (lines_of q)

-- Q lines z behind declarations a, or none, and their cells q.
pub record Tailed (a z q : List ℕ) : Type 0 where
  pub parted : Parted 6 a z
  pub sheet : refusal (whole.sheet_rows base (a ++ z)) ≡ Accepted
  pub cells : lines_of q ≡ lines 6 z
  pub sized : length q ≡ 6 * count 6 z
  pub few : length q ≤ 1536
  pub good : Good (count_of name_line (lines 6 a)) q

-- The table in the first r cells, which are no more than its room.
pub record Filled (b t t' : List ℕ) (r : ℕ) : Type 0 where
  pub long : length t' ≡ length t
  pub room : r ≤ 8 * count 6 b + 16
  pub read : Read b (take r t')

-- The first m lines are declarations, whose table stands in the first k cells; the Q lines' cells stand behind the table's room.
pub record Parts (b t : List ℕ) (m k : ℕ) : Type 0 where
  pub inside : m ≤ count 6 b
  pub whole : length b ≡ 32 * count 6 b
  pub table_room : k ≤ 8 * m + 16
  pub tail_room : 8 * count 6 b + 16 ≤ length t
  pub few : length b ≤ 65536
  pub read : Read (take (m * 32) b) (take k t)
  pub tailed : Tailed (take (m * 32) b) (drop (m * 32) b) (take (6 * count 6 (drop (m * 32) b)) (drop (8 * m + 16) t))

-- A refusal has no table.
abbrev pub refused_front : ℕ → ℕ → Front
refused_front code place = record { refusal = Refused code place; lines = 0; cells = 0 }

-- The answer r of rows 1 to 7, and the cells t that it leaves.
pub record Fronted (b t : List ℕ) (r : Front) : Type 0 where
  pub answer : r.refusal ≡ refusal (whole.sheet_rows base b)
  pub accepts : r.refusal ≡ Accepted → Parts b t r.lines r.cells

-- ---- sheets that rows 2 to 7 refuse as if they had no Q lines
-- with this code and place; and so much memory there is for the table
pub record Refuses (b : List ℕ) (room code place : ℕ) : Type 0 where
  pub short : row1 base b ≡ false
  pub refused : refusal (sheet_rows base b) ≡ Refused code place
  pub roomy : 8 * count 6 b + 16 ≤ room

-- The Q lines begin at line m, and no line is bad.
pub record Breaks (b : List ℕ) (room m : ℕ) : Type 0 where
  pub short : row1 base b ≡ false
  pub no_bad : row2 6 b ≡ count 6 b
  pub inside : m < count 6 b
  pub begins : front_count 6 b ≡ m
  pub roomy : 8 * count 6 b + 16 ≤ room
