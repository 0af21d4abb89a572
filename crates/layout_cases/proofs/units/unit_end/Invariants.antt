-- the place lies within the sheet
use Rattle.std.proofs.Common.{◌≤◌, length}
use Rattle.layout_cases.proofs.units.unit_end.Given as goal

abbrev pub invariant-loop : goal.invariant-loop
invariant-loop l = l.at ≤ length l.s
