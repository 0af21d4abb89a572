-- The bytes passed are spaces.
use Rattle.std.proofs.Common.{◌≡◌, ◌-◌, drop}
use Rattle.sheet.specs.Line.{spaces}
use Rattle.sheet_lines.proofs.texts.blank.Given as goal

abbrev pub invariant-loop-i : goal.invariant-loop-i
invariant-loop-i l = spaces (drop l.fn.from l.t) ≡ spaces (drop l.i l.t)

abbrev pub decreases-loop-i : goal.decreases-loop-i
decreases-loop-i l = l.n - l.i
