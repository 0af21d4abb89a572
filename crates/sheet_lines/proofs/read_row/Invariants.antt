-- The columns passed hold numbers.
use Rattle.std.proofs.Common.{◌≡◌, ℕ, ◌<◌, true}
use Rattle.sheet.specs.Line.{cell, is_value}
use Rattle.sheet_lines.proofs.read_row.Given as goal

abbrev pub invariant-loop-k : goal.invariant-loop-k
invariant-loop-k l = (j : ℕ) → j < l.k → is_value (cell 6 l.l j) ≡ true
