-- The bytes passed are text.
use Rattle.std.proofs.Common.{◌≡◌, ◌+◌, length, drop}
use Rattle.sheet.specs.Line.{spelling}
use Rattle.sheet_lines.proofs.texts.spelled.Given as goal

abbrev pub invariant-loop-i : goal.invariant-loop-i
invariant-loop-i l = length (spelling l.t) ≡ l.i + length (spelling (drop l.i l.t))
