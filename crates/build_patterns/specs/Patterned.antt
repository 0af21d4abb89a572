-- What is known of a sheet that ends in a pattern, from row to row: a are its declarations and z its Q lines, whose cells q has.
-- Assumes nothing.
use Rattle.std.specs.Prelude.{◌≡◌, List, ℕ, ◌+◌, ◌/◌, ◌≤◌, ◌<◌, length}
use Rattle.std.proofs.Math.Option.{Option}
use Rattle.sheet.specs.Line.{Line}
use Rattle.sheet.specs.Sheet.{first, count, lines}
use Rattle.walk_cells.specs.Cells.{lines_of}
use Rattle.model.specs.Decl.{Layout}
use Rattle.model.specs.Run.{run}
use Rattle.model_patterns.specs.Pat.{Owner, ctor_owner, type_layout, rw_pat}
use Rattle.meaning.specs.Program.{field_line, program}
use Rattle.meaning.specs.Rows.{count_of}
use Rattle.meaning_patterns.specs.Patterns.{pattern, row13}
use Rattle.pattern_laws.specs.Made.{made_of}
use Rattle.pattern_laws.specs.Marks.{owners_of}
use Rattle.pattern_owners.specs.Places.{Placed}
use Rattle.table_access.specs.Tables.{lines_in}
use Rattle.pattern_marks.specs.Tables.{Given}
use Rattle.pattern_flags.specs.Flags.{FlagsTo}
use Rattle.input_table.specs.Table.{Tailed}
use Rattle.input_rows.specs.Judging.{Clear}

-- At least one Q line, where no row of the input applies.
pub record Patterned (a z t q u rank keep : List ℕ) : Type 0 where
  pub clear : Clear a t u rank keep
  pub tailed : Tailed a z q
  pub some : 0 < length q
  pub counts : first (row13 (program (lines 6 a)) (lines 6 z)) (count 6 z) ≡ count 6 z

-- nor row 11
pub record Counted (a z t q u rank keep v : List ℕ) : Type 0 where
  pub patterned : Patterned a z t q u rank keep
  pub room : length a + length z ≤ length v

-- what flags ask: their number is at most 256
pub record Unflagged (t q m keep flags : List ℕ) : Type 0 where
  pub given : Given t m (lines_of q)
  pub few : length q ≤ 1536
  pub keeps : count_of field_line (lines_in t) ≤ length keep
  pub room : length (lines_of q) ≤ length flags

-- The Q lines' flags by the tables, where `place` has the places of parts.
pub record Flagged (ls : List Line) (keep u m : List ℕ) (qs : List Line) (flags : List ℕ) : Type 0 where
  pub place : List ℕ
  pub placed : Placed qs place
  pub told : FlagsTo ls keep u m qs (owners_of qs) place flags (length qs)

-- the tables by which a pattern is rewritten
abbrev pub owner_in : List Line → ℕ → Option Owner
owner_in ls = ctor_owner (run 100 (program ls)).infos

abbrev pub layout_in : List Line → ℕ → Option Layout
layout_in ls = type_layout (program ls) (run 100 (program ls)).infos

-- By these marks and flags the Q lines give the rewritten pattern.
pub record Marked (ls : List Line) (q marks flags : List ℕ) : Type 0 where
  pub rewrites : made_of marks flags (lines_of q) ≡ rw_pat (owner_in ls) (layout_in ls) (pattern (lines_of q))
  pub marked : length q / 6 ≤ length marks
  pub flagged : length q / 6 ≤ length flags
