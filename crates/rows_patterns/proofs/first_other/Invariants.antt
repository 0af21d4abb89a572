-- Every line passed has the letter Q.
use Rattle.std.proofs.Common.{◌≡◌, not}
use Rattle.sheet.specs.Sheet.{first}
use Rattle.meaning.specs.Program.{is}
use Rattle.meaning.specs.Rows.{raw}
use Rattle.meaning_patterns.specs.Patterns.{pattern_line}
use Rattle.rows_patterns.proofs.first_other.Given as goal

abbrev pub invariant-loop-i : goal.invariant-loop-i
invariant-loop-i l = first (λ i. not (is pattern_line (raw 6 l.fn.z i))) l.i ≡ l.i
