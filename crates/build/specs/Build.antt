-- What is known of a sheet to which no row of the input applies. Assumes nothing.
use Rattle.std.specs.Prelude.{◌≡◌, List, ℕ}
use Rattle.sheet.specs.Sheet.{first, count, lines}
use Rattle.meaning.specs.Program.{program}
use Rattle.meaning_patterns.specs.Patterns.{row13}
use Rattle.input_table.specs.Table.{Tailed}
use Rattle.input_rows.specs.Judging.{Clear}

-- The declarations a and Q lines z, if there are any; the table t and the cells q; and what the passes found.
pub record Taken (a z t q u rank keep : List ℕ) : Type 0 where
  pub clear : Clear a t u rank keep
  pub tailed : Tailed a z q
  pub counts : first (row13 (program (lines 6 a)) (lines 6 z)) (count 6 z) ≡ count 6 z
