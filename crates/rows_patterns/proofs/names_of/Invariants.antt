-- The N lines passed are counted.
use Rattle.std.proofs.Common.{◌≡◌, ◌≤◌}
use Rattle.sheet.specs.Sheet.{lines}
use Rattle.meaning.specs.Program.{name_line}
use Rattle.meaning.specs.Rows.{count_before}
use Rattle.rows_patterns.proofs.names_of.Given as goal

abbrev pub invariant-loop-i : goal.invariant-loop-i
invariant-loop-i l = record { within : l.names ≤ l.i; counted : l.names ≡ count_before name_line (lines 6 l.fn.a) l.i }
